-- LAWS. The whole case of docs/ROWTEXT.md, its larger arc, a warning and a refusal: what the definition says to them, computed. Assumes nothing.
use Rattle.std.specs.Prelude.{ℕ, ◌≡◌, refl, true, false, List, [], ◌++◌}
use Prim.Native.String.{String}
use Rattle.std.specs.Float.Ieee as Ieee
use Rattle.csv_words.specs.Text.{bytes}
use Rattle.floats.specs.Lists as Lists
use Rattle.motion.specs.Motion as Motion
use Rattle.root.specs.Root as Root
use Rattle.whole.specs.Whole as Whole
use Rattle.trig.specs.Trig as Trig
use Rattle.row_cells.specs.Bits as Bits
use Rattle.row_cells.specs.Codes as Codes
use Rattle.row_cells.specs.Row as Row
use Rattle.row_numbers.specs.RowNumbers as RowNumbers
use Rattle.row_check.specs.Check as Check
use Rattle.row_made.specs.Made as Made
use Rattle.arc_centre.specs.Centre as Centre
use Rattle.arc_numbers.specs.Arc as Arc
use Rattle.arc_answer.specs.Samples as Samples
use Rattle.arc_answer.specs.Arc as ArcRowsArc
use Rattle.curve_metric.specs.Metric as Metric
use Rattle.curve_metric.specs.Walk as Walk
use Rattle.fit_slopes.specs.Slopes as Slopes
use Rattle.fit_knots.specs.Fit as Fit
use Rattle.bspline_tables.specs.Basis as Basis
use Rattle.curve_drawing.specs.Runs as Runs
use Rattle.spline_channels.specs.Channels as Channels
use Rattle.spline_metric.specs.Metric as Measured
use Rattle.spline_points.specs.Points as Points
use Rattle.spline_places.specs.Groups as Groups
use Rattle.spline_answer.specs.Runs as Curves
use Rattle.spline_answer.specs.Emission as Emission
use Rattle.saved_state.specs.State as State
use Rattle.push_resolve.specs.Blocks as Blocks
use Rattle.push_check.specs.Refusal as Refusal
use Rattle.push_start.specs.Opened as Opened
use Rattle.push_state.specs.Pushed as Pushed
use Rattle.call_answer.specs.Answer as Answer
use Rattle.call_reply.specs.Replies as Replies
use Rattle.call_start.specs.Start as Start
use Rattle.call_answer.specs.Close as Close
use Rattle.spline_answer.specs.Held as Held
use Rattle.call_answer.specs.Push as Push
use Rattle.csv_decimal.specs.Decimal as Decimal
use Rattle.csv_fields.specs.Read as Read
use Rattle.csv_figures.specs.Write as Write
use Rattle.csv_words.specs.Words as Words
use Rattle.csv_line.specs.LineText as LineText
use Rattle.csv_line.specs.Notice as Notice
use Rattle.csv_cells.specs.Cells as Cells
use Rattle.csv_read.specs.Reader as Reader
use Rattle.csv_write.specs.Writer as Writer
use Rattle.text_cut.specs.Cut as Cut
use Rattle.csv_count.specs.Count as Count
use Rattle.csv_out.specs.Say as Say
use Rattle.csv_answer.specs.Answer as Answered
use Rattle.csv_spec.specs.Csv as Csv
use Rattle.csv_spec.specs.Line as Line

-- a line of text, with its end
abbrev pub line : String → List ℕ
line text = bytes text ++ LineText.crlf

-- what the definition says to an input; it computes
unfoldable pub says : List ℕ → Csv.Whole
unfolding Lists.all Lists.any_of Lists.flatten Lists.keep Lists.member Lists.spliced Lists.upto Motion.is_basis Motion.is_cubic Motion.is_other
    Motion.is_spline Motion.kind_of Root.floor_root Root.root_units Root.sqrt Whole.ceil_count Whole.half_up_count Whole.trunc_count Trig.acos_steps
    Trig.atan2_steps Trig.atan_from Trig.atan_left Trig.atan_right Trig.atan_up Trig.cos_steps Trig.sin_steps Bits.has Bits.with_bit Codes.geometric_of
    Codes.plane_ok Codes.plane_u Codes.plane_v Row.cell Row.has_point Row.mask_of Row.number Row.out_row Row.row_of RowNumbers.above1000 RowNumbers.cell_ok
    RowNumbers.numbers_ok Check.row_check Check.shape_ok RowNumbers.turn_ok RowNumbers.within Made.made_row Made.rides Made.with_riders Centre.centre_of
    Centre.cr_centre Centre.radius Centre.side_of Centre.wide_centre Arc.agree Arc.arc_of Arc.count_of Arc.step_of Arc.sweep_left Arc.sweep_of
    Arc.turned Arc.wanted_of
    Samples.arc_row Samples.last_cell Samples.mid_cell Samples.ramp ArcRowsArc.arc_answer ArcRowsArc.arc_rows ArcRowsArc.from_centre ArcRowsArc.from_start
    ArcRowsArc.held_axes ArcRowsArc.passed ArcRowsArc.silent Metric.along Metric.chord_to Metric.chords Metric.deviation_of Metric.dist_to Metric.dot_to
    Metric.len_to Walk.flat Walk.near Walk.samples Slopes.akima_at Slopes.akima_slope Slopes.bend Slopes.bend_back Slopes.bent Slopes.cubic_slope
    Slopes.diag Slopes.rhs Slopes.widened Fit.eval_fit Fit.fit_of Fit.fit_run Fit.fit_runs Fit.kept_to Fit.piece_from Fit.piece_of Basis.basis_of
    Basis.basis_runs Basis.basis_samples Basis.degree_of Basis.eval_basis Basis.greville Basis.knot_sum Basis.knots Basis.levels Basis.owned
    Basis.owner_from Basis.raised_at Basis.run_of Basis.share Basis.span_of Basis.top_of Runs.curve_runs Channels.channels Channels.channels_from
    Points.first_cell Measured.metric_of Points.next_point Channels.place_of Channels.point_rows Points.points_from Points.start_point Points.weight_of
    Groups.held_group Groups.is_marked Groups.own_cell Groups.point_group Groups.sample_cell Curves.runs_of Emission.spline_groups State.axes_ok
    State.code_ok State.codes_ok State.geometric State.held_ok State.held_row_ok State.held_rows State.placed State.point_at_ok State.point_ok State.point_word
    State.saved_check State.state_ok State.store_ok State.tol_ok Blocks.emits Refusal.is_full Blocks.kept Blocks.news Blocks.or_now Refusal.push_check
    Pushed.buffered Pushed.degree_with Opened.forgotten Opened.opened Pushed.push_state Pushed.push_store Pushed.track_to Answer.answer_as Answer.own_answer
    Replies.too_few Start.fresh Start.fresh_word Start.start_spec Close.close_rows Close.close_spec Close.close_state Replies.untouched Held.emission
    Held.held_spline Push.push_done Push.push_rows Push.push_spec Decimal.millionths Decimal.quotient Decimal.width_from Read.fraction Read.line_number Read.num
    Read.number Read.run Read.unsigned Write.figures Write.millionths_text Write.number_text Words.motion_of Words.plane_of Words.seek LineText.end_of
    LineText.joined LineText.parted LineText.tailed Notice.notice_text Reader.cell_in Cells.cell_ok Reader.cells_in Cells.cells_ok Reader.from_cells
    Cells.given Reader.read_row Writer.cell_shown Writer.cell_text Writer.cell_texts Writer.head_ok Writer.mark_text Writer.out_fields Writer.row_fields
    Writer.row_text Writer.rows_text Writer.rows_writable Writer.writable Cut.lines_from Cut.rest_from Answered.answer Say.heading Count.next_line Say.refusal
    Answered.warning_text Csv.begun Csv.csv_finish Csv.csv_lines Csv.csv_rest Csv.csv_spec Line.csv_close Line.csv_end Line.csv_line Line.on_row Line.on_text
    Line.unread Ieee.add Ieee.sub Ieee.mul Ieee.div Ieee.rem Ieee.neg Ieee.lt Ieee.le Ieee.eq Ieee.of_bits Ieee.to_bits Ieee.of_int
says input = Csv.csv_spec input

-- the whole case, in
abbrev pub case_in : List ℕ
case_in =
    line "line_no,gg01_motion,gg06_plane_select,X,Y,Z,I,J,K,CR,TURN,PW,SD,F" ++
    line "1,G1,G17,0.04,0,,,,,,,,,1000" ++
    line "2,G3,,0,0.04,,-0.04,,,,,,," ++
    line "3,ASPLINE,,10,0.04,,,,,,,,," ++
    line "4,,,20,,,,,,,,,," ++
    line "5,,,,,,,,,,,,,500" ++
    line "6,G1,,0,0,,,,,,,,,"

-- and out
abbrev pub case_out : List ℕ
case_out =
    line "line_no,gg01_motion,gg06_plane_select,X,Y,Z,I,J,K,CR,TURN,PW,SD,F,flattened" ++
    line "1,G1,G17,0.040000,0.000000,,,,,,,,,1000.000000," ++
    line "2,G1,,0.000000,0.040000,,,,,,,,,," ++
    line "3,G1,,10.000000,0.040000,,,,,,,,,," ++
    line "4,,,20.000000,0.040000,,,,,,,,,," ++
    line "5,,,,,,,,,,,,,500.000000," ++
    line "6,G1,,0.000000,0.000000,,,,,,,,,,"

pub whole-case : says case_in ≡ record { out = case_out; err = []; refused = false }
unfolding says
whole-case = refl

-- a quarter of a circle
abbrev pub arc_in : List ℕ
arc_in =
    line "line_no,gg01_motion,gg06_plane_select,X,Y,Z,I,J,K,CR,TURN,PW,SD,F" ++
    line "1,G1,G17,10,0,,,,,,,,,800" ++
    line "2,G3,,0,10,,-10,,,,,,,"

-- in six rows
abbrev pub arc_out : List ℕ
arc_out =
    line "line_no,gg01_motion,gg06_plane_select,X,Y,Z,I,J,K,CR,TURN,PW,SD,F,flattened" ++
    line "1,G1,G17,10.000000,0.000000,,,,,,,,,800.000000," ++
    line "2,G1,,9.659258,2.588190,,,,,,,,,,1" ++
    line "2,,,8.660254,5.000000,,,,,,,,,,1" ++
    line "2,,,7.071068,7.071068,,,,,,,,,,1" ++
    line "2,,,5.000000,8.660254,,,,,,,,,,1" ++
    line "2,,,2.588190,9.659258,,,,,,,,,,1" ++
    line "2,,,0.000000,10.000000,,,,,,,,,,"

pub larger_arc : says arc_in ≡ record { out = arc_out; err = []; refused = false }
unfolding says
larger_arc = refl

-- standard error, where a line comes behind the header and a move to the origin
unfoldable pub noted : String → List ℕ
unfolding says
noted text = (says (line "line_no,gg01_motion,gg06_plane_select,X,Y,Z,I,J,K,CR,TURN,PW,SD,F" ++ line "1,G1,G17,0,0,,,,,,,,," ++ line text)).err

-- 7.13, 7.14: a warning at its source line, and a refusal of text at its physical line
pub warned : noted "2,G2,,10,0,,,,,4,,,," ≡ line "2,3"
unfolding noted
warned = refl

pub turned-away : noted "2,G1,,1e3,,,,,,,,,," ≡ line "3,10,refused"
unfolding noted
turned-away = refl

-- 7.16: no header
pub empty_input : says [] ≡ record { out = []; err = line "1,10,refused"; refused = true }
unfolding says
empty_input = refl
