-- DEFINITIONS. The two headers of row text: rule 7.2. Assumes nothing.
use Rattle.std.specs.Prelude.{ℕ, List}
use Rattle.csv_words.specs.Text.{bytes}

-- 7.2: the header in, and the one out
abbrev pub header : List ℕ
header = bytes "line_no,gg01_motion,gg06_plane_select,X,Y,Z,I,J,K,CR,TURN,PW,SD,F"

abbrev pub header_out : List ℕ
header_out = bytes "line_no,gg01_motion,gg06_plane_select,X,Y,Z,I,J,K,CR,TURN,PW,SD,F,flattened"
