-- DEFINITIONS. The headers of a night's tables: rule 11.15. Assumes nothing.
use Rattle.std.specs.Prelude.{ℕ, List, ◌++◌}
use Rattle.csv_words.specs.Text.{bytes}

abbrev pub tries_header : List ℕ
tries_header =
    bytes "job,file,checksum,try,tolerance,closed,blocks,rows,marked,refusal,refusal_line,warning_1,warning_2,warning_3,warning_4,"
    ++ bytes "warning_5,warning_6,warning_7,warning_8,warning_9,warning_10,warning_11,warning_12,warning_13,warning_14,warning_15,curved,passed"

abbrev pub curved_header : List ℕ
curved_header = bytes "job,try,line,motion,warning"

-- bytes that a header with its end never is more than
abbrev pub header_room : ℕ
header_room = 320
