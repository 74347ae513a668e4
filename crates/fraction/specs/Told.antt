-- The code's fraction as the definition's.
use Rattle.capture_rules.specs.Doc.Fraction as doc
use Rattle.fraction.specs.declared.Fraction.{Fraction}

abbrev pub fraction_of : Fraction → doc.Fraction
fraction_of f = record { num = f.num; den = f.den }
