-- For proofs that compute: `unfolding request` opens every definition of request three, and those of document 01 that it is made of.
use Rattle.rules.specs.Unfold.{document}
use Rattle.jpeg_rules.specs.Doc.Segments.{ends_search, lacks_length, past_fill, marker_at, body_at, body, length_at, length_read, segment_at, is_exif, length_test, said, segment_met, segment_step, segments}
use Rattle.jpeg_rules.specs.Doc.Block.{is_jpeg, behind_name, block_in, found, jpeg_block}
use Rattle.jpeg_rules.specs.Doc.Consulted.{start_bytes, tested_bytes, head_bytes, name_bytes, segment_bytes, search_bytes, jpeg_consulted}
use Rattle.jpeg_rules.specs.Doc.Either.{either_block, either_consulted}

unfoldable pub request : Unit {0}
unfolding document ends_search lacks_length past_fill marker_at body_at body length_at length_read segment_at is_exif length_test said segment_met segment_step segments
    is_jpeg behind_name block_in found jpeg_block start_bytes tested_bytes head_bytes name_bytes segment_bytes search_bytes jpeg_consulted either_block either_consulted
request = tt
