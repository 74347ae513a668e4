-- Images that agree on some positions have the same numbers and parts there.
use Rattle.std.specs.Prelude.{◌≡◌, refl, ℕ, zero, suc, ◌+◌, ◌*◌, ◌≤◌, ◌<◌, Bool, true, false, List, [], ◌∷◌, ◌++◌, length, drop, leb, if◌then◌else◌}
use Rattle.std.proofs.Common.{sym, ap, ap₂, ◌∙◌, subst, arith, length-take, length-drop, ext_get_or, get_or-take, get_or-drop}
use Rattle.std.proofs.Math.Decide.{ℕ_discrete}
use Rattle.rules.specs.Doc.Outcomes.{Outcome, fine, refused, ◌>>=◌, once}
use Rattle.rules.specs.Doc.Bytes.{byte_at, number_at, part, positions, Span, size_of, bytes_in}
use Rattle.rules.specs.Doc.Consulted.{span_bytes, Agree}

-- ---- Lists of positions

pub agree_left : (a b ps qs : List ℕ) → Agree a b (ps ++ qs) → Agree a b ps
agree_left a b [] qs g = tt
agree_left a b (i ∷ ps) qs g = (g.0, agree_left a b ps qs g.1)

pub agree_right : (a b ps qs : List ℕ) → Agree a b (ps ++ qs) → Agree a b qs
agree_right a b [] qs g = g
agree_right a b (i ∷ ps) qs g = agree_right a b ps qs g.1

pub agree_both : (a b ps qs : List ℕ) → Agree a b ps → Agree a b qs → Agree a b (ps ++ qs)
agree_both a b [] qs g h = h
agree_both a b (i ∷ ps) qs g h = (g.0, agree_both a b ps qs g.1 h)

-- agreement on all positions from f up to t
abbrev pub Range : List ℕ → List ℕ → ℕ → ℕ → Type 0
Range a b f t = (i : ℕ) → f ≤ i → i < t → byte_at a i ≡ byte_at b i

range_cons : (a b : List ℕ) (f n : ℕ) → byte_at a f ≡ byte_at b f → Range a b (suc f) (suc f + n) → Range a b f (f + suc n)
range_cons a b f n e r i h k = elim (ℕ_discrete i f) [ yes p ↦ subst (λ (j : ℕ). byte_at a j ≡ byte_at b j) (sym p) e | no p ↦ r i (omega arith) (omega arith) ]

pub range_of : (a b : List ℕ) (f n : ℕ) → Agree a b (positions f n) → Range a b f (f + n)
unfolding positions
range_of a b f zero g = λ i h k. absurd (omega arith)
range_of a b f (suc n) g = range_cons a b f n g.0 (range_of a b (suc f) n g.1)

-- ---- Numbers and parts

pub number_same : (a b : List ℕ) (f t at n : ℕ) → Range a b f t → f ≤ at → at + n ≤ t → number_at a at n ≡ number_at b at n
unfolding number_at
number_same a b f t at zero r h k = refl
number_same a b f t at (suc n) r h k = ap₂ (λ (x y : ℕ). x * 256 + y) (number_same a b f t at n r h (omega arith)) (r (at + n) (omega arith) (omega arith))

pub part_at : (s : List ℕ) (f n i : ℕ) → i < n → byte_at (part s f n) i ≡ byte_at s (f + i)
part_at s f n i h = get_or-take n (drop f s) i 0 h ∙ get_or-drop f s i 0

part_same : (a b : List ℕ) (f n : ℕ) → length a ≡ length b → Range a b f (f + n) → part a f n ≡ part b f n
part_same a b f n e r =
    ext_get_or 0 (part a f n) (part b f n) (simp (length-take, length-drop, e))
    (λ i h. let k : i < n = omega (arith, simp (length-take, length-drop) at h) in part_at a f n i k ∙ r (f + i) (omega arith) (omega arith) ∙ sym (part_at b f n i k))

pub bytes_same : (a b : List ℕ) (p : Span) → length a ≡ length b → Agree a b (span_bytes (length a) p) → bytes_in a p ≡ bytes_in b p
unfolding bytes_in span_bytes
bytes_same a b p e g = go (leb p.to (length a)) g ∙ ap (λ (n : ℕ). if leb p.to n then part b p.from (size_of p) else []) e
  where
    go : (t : Bool) → Agree a b (if t then positions p.from (size_of p) else [])
        → (if t then part a p.from (size_of p) else []) ≡ (if t then part b p.from (size_of p) else [])
    go true g = part_same a b p.from (size_of p) e (range_of a b p.from (size_of p) g)
    go false g = refl

-- ---- After a step that was not refused

pub once_same : {A B : Type 0} (a b : List ℕ) (r : A → List ℕ) (f g : A → Outcome B) → ((x : A) → Agree a b (r x) → f x ≡ g x)
    → (o o' : Outcome A) → Agree a b (once r o) → o ≡ o' → (o >>= f) ≡ (o' >>= g)
unfolding once
once_same a b r f g same (fine x) o' h e = same x h ∙ ap (λ o. o >>= g) e
once_same a b r f g same (refused n) o' h e = ap (λ o. o >>= g) e
