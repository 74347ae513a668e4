-- `all` over the pairs of bytes is the definition's answer, where there are as many.
use Rattle.std.proofs.Common.{rules, ◌∙◌}
use borrow.Author.Tests.{tests}
use Rattle.std.proofs.lemmas.Iterator.{YieldsList-from_slice, YieldsList-from_zip}
use Rattle.std.proofs.lemmas.Iterator.Search.{all_from_yields_List}
use Rattle.capture_rules.specs.Doc.Time.{fits}
use Rattle.dates.specs.Steps.{alike_each, alike_longer}
use Rattle.dates.proofs.shape.alike.Goals as goal

pub returns-then-pattern-value : goal.returns-then-pattern-value
returns-then-pattern-value c =
    let p = c.args.pattern.now in
    let s = c.args.value.now in
    all_from_yields_List (λ q. fits q.0 q.1) c.all.new.self _ _ c.all.ensures.ran (YieldsList-from_zip (YieldsList-from_slice p (cc)) (YieldsList-from_slice s (cc))) (λ x b q k. search (rules, tests)) ∙ alike_each p s c.if-pattern-value.true

pub returns-else-pattern-value : goal.returns-else-pattern-value
returns-else-pattern-value c = search (rules, tests, alike_longer)
