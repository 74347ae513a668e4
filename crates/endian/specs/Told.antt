-- The byte order that the code's enum names.
use Rattle.rules.specs.Doc.Endian as rules
use Rattle.endian.specs.declared.Endian.{Endian}
use Rattle.endian.specs.declared.Endian.TheVariants.{Big, Little}

abbrev pub endian_of : Endian → rules.Endian
endian_of Big = rules.big
endian_of Little = rules.little
