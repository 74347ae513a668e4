-- For proofs that compute: `unfolding document` opens every definition of document 01.
use Rattle.rules.specs.Doc.Outcomes.{is_fine, once}
use Rattle.rules.specs.Doc.Lists.{any, only, last_of, each}
use Rattle.rules.specs.Doc.Bytes.{number_at, positions, bytes_in, field, sized, version}
use Rattle.rules.specs.Doc.Walks.{bare, walked, judged, after, run, outcome}
use Rattle.rules.specs.Doc.Headers.{header_of, header_at, body_size, box_with, whole, skips, announced, box_at, child_at, file_box_at}
use Rattle.rules.specs.Doc.Levels.{tested, said, decided, box_step, level_step, boxes, counted_boxes, inside}
use Rattle.rules.specs.Doc.Ftyp.{brands_from, brand_test, top_fits, top_level, top, stopped}
use Rattle.rules.specs.Doc.Meta.{opened_in, opened, meta_test}
use Rattle.rules.specs.Doc.Children.{meta_level, children, body_in, last_body, all_items, wanted_item, kept_in, kept}
use Rattle.rules.specs.Doc.Iinf.{item_id_size, item, item_test, is_exif, count_size, info_count, info_level, infos, info_test, info_boxes, item_in, items}
use Rattle.rules.specs.Doc.Iloc.{id_size, sizes_of, base_size_of, table_of, method_size, in_file, entry_at, extent_width, extent_at, extent_met, extents, is_wanted, entry_end, extents_test, entry_next, entry_met, entries, chosen_in, chosen}
use Rattle.rules.specs.Doc.Join.{moved, moved_option, plan_of, plan, by_method, source_of, reach, in_image, in_idat, lies, counted, placed, join, positions_in, joined_in, joined_by, joined_from, joined}
use Rattle.rules.specs.Doc.Block.{bytes_at, first_four, block_after, block_in, block}
use Rattle.rules.specs.Doc.Heif.{heif_level, is_heif}
use Rattle.rules.specs.Doc.Answers.{handed, answer_with, answer_by}
use Rattle.rules.specs.Doc.Consulted.{end_bytes, walk_bytes, span_bytes, box_bytes, cut_bytes, boxes_bytes, meta_bytes, shift, consulted}
use Rattle.rules.specs.Doc.Text.{digit, hex, decimal_to, decimal}
use Rattle.rules.specs.Doc.Listing.{line_of, ◌then◌, holders, behind, behind_count, opening, listed_at}
use Rattle.rules.specs.Doc.Listing.{row_of, run_of, children_of, open_box, list_run, front_text, line_text, last_text, text_of, listing, printed}

unfoldable pub document : Unit {0}
unfolding handed answer_with answer_by bytes_at first_four block_after block_in block number_at positions bytes_in field sized version meta_level
    children body_in last_body all_items wanted_item kept_in kept end_bytes walk_bytes span_bytes box_bytes cut_bytes boxes_bytes meta_bytes shift consulted
    brands_from brand_test top_fits top_level top stopped header_of header_at body_size box_with whole skips announced box_at child_at file_box_at
    heif_level is_heif item_id_size item item_test is_exif count_size info_count info_level infos info_test info_boxes item_in items id_size
    sizes_of base_size_of table_of method_size in_file entry_at extent_width extent_at extent_met extents is_wanted entry_end extents_test
    entry_next entry_met entries chosen_in chosen moved moved_option plan_of plan by_method source_of reach in_image in_idat lies counted placed join
    positions_in joined_in joined_by joined_from joined tested said decided box_step level_step boxes counted_boxes inside any only last_of
    each opened_in opened meta_test is_fine once bare walked judged after run outcome
    digit hex decimal_to decimal line_of ◌then◌ holders behind behind_count opening listed_at row_of run_of children_of open_box list_run front_text line_text last_text text_of listing printed
document = tt
