-- For proofs that compute: `unfolding request` opens every definition of request fourteen, and those of document 01 that it is made of.
use Rattle.rules.specs.Doc.Lists.{only, each, same}
use Rattle.rules.specs.Doc.Bytes.{positions}
use Rattle.rules.specs.Doc.Text.{digit, decimal_to, decimal}
use Rattle.rules.specs.Demands.Digits.{digit_value, value_from}
use Rattle.sheet_rules.specs.Doc.Rows.{row_text, digit_then, digits_in, numbers_in}
use Rattle.sheet_rules.specs.Doc.Lines.{on_first, onto, lines, line_names, line_text, allowed, entry_of, entry_in}
use Rattle.sheet_rules.specs.Doc.Sheet.{entries_from, entries, files_with, count_of, counts, has_files, occurred, sum, larger, largest_of, lengths}
use Rattle.sheet_rules.specs.Doc.Sheet.{totals, count_names, count_text, total_names, totals_text, sheet_text, wrong_text, sheet_of, sheet}

unfoldable pub request : Unit {0}
unfolding only each same positions digit decimal_to decimal digit_value value_from row_text digit_then digits_in numbers_in
    on_first onto lines line_names line_text allowed entry_of entry_in
    entries_from entries files_with count_of counts has_files occurred sum larger largest_of lengths
    totals count_names count_text total_names totals_text sheet_text wrong_text sheet_of sheet
request = tt
