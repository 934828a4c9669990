-- LAWS. 8.13: rows worked out by hand, through the four calls, as one theorem over the list. Assumes nothing.
use Rattle.std.specs.Prelude.{ℕ, ◌+◌, ◌^◌, ◌*◌, ◌≡◌, refl, List, [], ◌∷◌, ◌++◌, map, get_or, set, replicate}
use Rattle.std.specs.Float.Ieee as Ieee
use Rattle.layout.specs.Layout.{row_words, r_line, r_motion, r_present, r_cells, c_cr, c_offset, c_turn, state_words}
use Rattle.floats.specs.Lists as Lists
use Rattle.root.specs.Root as Root
use Rattle.whole.specs.Whole as Whole
use Rattle.trig.specs.Trig as Trig
use Rattle.motion.specs.Motion as Motion
use Rattle.row_cells.specs.Codes as Codes
use Rattle.row_cells.specs.Row as Row
use Rattle.row_cells.specs.Bits as Bits
use Rattle.row_made.specs.Made as Made
use Rattle.row_numbers.specs.RowNumbers as RowNumbers
use Rattle.row_check.specs.Check as Check
use Rattle.arc_answer.specs.Arc as Arc
use Rattle.curve_metric.specs.Metric as Metric
use Rattle.curve_metric.specs.Walk as Walk
use Rattle.bspline_tables.specs.Basis as Basis
use Rattle.curve_drawing.specs.Runs as Runs
use Rattle.spline_answer.specs.Words as Emission
use Rattle.saved_state.specs.State as State
use Rattle.call_start.specs.Start as Start
use Rattle.spline_answer.specs.Held as Held
use Rattle.call_reply.specs.Replies as Replies
use Rattle.call_answer.specs.Push as Push
use Rattle.push_resolve.specs.Blocks as Blocks
use Rattle.push_check.specs.Refusal as Refusal
use Rattle.push_start.specs.Opened as Opened
use Rattle.push_state.specs.Pushed as Pushed
use Rattle.call_answer.specs.Answer as Own
use Rattle.call_answer.specs.Close as Close
use Rattle.demand_calls.specs.Runs as Calls
use Rattle.demands.specs.Demands as Demands
use Rattle.demand_calls.specs.Runs.{Call, pushing, closing}

-- 0, 10, -10, 0.1, 30, 100
abbrev pub w10 : ℕ
w10 = 0x4024000000000000

abbrev pub -w10 : ℕ
-w10 = 0xc024000000000000

abbrev pub w0·1 : ℕ
w0·1 = 0x3fb999999999999a

abbrev pub w30 : ℕ
w30 = 0x403e000000000000

abbrev pub w100 : ℕ
w100 = 0x4059000000000000

-- a row of a line number, a motion, and of cells, each a code and a word
unfoldable pub celled : List ℕ → List ℕ → List ℕ
celled r [] = r
celled r (k ∷ []) = r
celled r (k ∷ w ∷ cs) = celled (set (set r r_present (get_or r r_present 0 + 2 ^ k)) (r_cells + k) w) cs

unfoldable pub row : ℕ → ℕ → List ℕ → List ℕ
unfolding celled
row line motion cs = celled (set (set (replicate row_words 0) r_line line) r_motion motion) cs

-- the code, count and warning of the last of some calls, and all that it wrote
unfoldable pub last_of : List ℕ → List ℕ → List Call → List ℕ
last_of st store [] = []
last_of st store (c ∷ []) =
    let a = Demands.answer st store c in
    a.reply.code ∷ a.reply.count ∷ a.reply.warning ∷ Calls.wrote a
last_of st store (c ∷ d ∷ cs) = let a = Demands.answer st store c in last_of a.state a.store (d ∷ cs)

abbrev pub xyz : List ℕ
xyz = 0 ∷ 1 ∷ 2 ∷ []

-- from a start with X Y Z and tolerance t, four store blocks lent; it computes
unfoldable pub asked : ℕ → List Call → List ℕ
unfolding Lists.upto Lists.keep Lists.member Lists.any_of Lists.flatten Lists.rows_of Lists.spliced Lists.Agrees Root.floor_root Root.root_units Root.sqrt
    Whole.ceil_count Whole.half_up_count Whole.trunc_count Trig.sin_steps Trig.cos_steps Trig.atan_from Trig.atan_right Trig.atan_left Trig.atan_up
    Trig.atan2_steps
    Trig.acos_steps Motion.kind_of Motion.is_spline Motion.is_other Motion.is_basis Motion.is_cubic Codes.plane_u Codes.plane_v Codes.plane_ok
    Codes.geometric_of
    Bits.has Lists.all Row.cell Row.number Row.shown Row.axes_of Row.mask_of Row.row_of Row.out_row Row.has_point Made.rides Made.with_riders Made.made_row
    Check.shape_ok RowNumbers.within RowNumbers.cell_ok RowNumbers.numbers_ok RowNumbers.above1000 RowNumbers.turn_ok Check.row_check Arc.passed Arc.silent
    Arc.side_of Arc.cr_centre Arc.centre_of
    Arc.radius Arc.wide_centre Arc.agree Arc.sweep_left Arc.sweep_of Arc.turned Arc.arc_of Arc.step_of Arc.wanted_of Arc.count_of Arc.ramp Arc.last_cell
    Arc.mid_cell Arc.arc_row Arc.held_axes Arc.arc_rows Arc.from_centre Arc.from_start Arc.arc_answer Metric.dot_to Metric.len_to Metric.along Metric.dist_to
    Metric.deviation_of Metric.chord_to Metric.chords Walk.near Walk.flat Walk.samples Basis.degree_of Basis.knots Basis.share Basis.raised_at Basis.levels
    Basis.basis_of Basis.span_of Basis.top_of Basis.eval_basis Basis.basis_samples Basis.knot_sum Basis.greville Basis.owner_from Basis.owned Basis.run_of
    Basis.basis_runs Runs.curve_runs Emission.point_rows Emission.channels_from Emission.channels Emission.first_cell Emission.start_point Emission.next_point
    Emission.points_from Emission.metric_of Emission.weight_of Emission.runs_of Emission.place_of Emission.sample_cell Emission.own_cell Emission.is_marked
    Emission.point_group Emission.held_group Emission.spline_groups State.geometric State.point_word State.tol_ok State.code_ok State.codes_ok State.axes_ok
    State.point_at_ok State.point_ok State.held_ok State.state_ok State.store_ok State.held_rows State.held_row_ok State.saved_check Bits.with_bit State.placed
    Start.fresh_word Start.fresh Start.start_spec Held.held_spline Blocks.or_now Blocks.emits Blocks.kept Held.emission Own.answer_as Own.own_answer Blocks.news
    Pushed.track_to Opened.forgotten Opened.opened Pushed.degree_with Pushed.buffered Pushed.push_state Pushed.push_store Push.push_rows Refusal.is_full
    Refusal.push_check Replies.untouched Replies.too_few Push.push_done Push.push_spec Close.close_rows Close.close_state Close.close_spec Demands.answer
    Calls.wrote Ieee.add Ieee.sub Ieee.mul Ieee.div Ieee.rem Ieee.neg Ieee.lt Ieee.le Ieee.eq Ieee.of_bits Ieee.to_bits Ieee.of_int last_of
asked t cs = last_of (Start.start_spec (replicate state_words 7) t xyz).state (replicate (4 * row_words) 0) cs

-- X and Y programmed on a line, with room for one row
unfoldable pub from : ℕ → ℕ → Call
from x y = pushing (replicate row_words 7) (row 1 2 (0 ∷ x ∷ 1 ∷ y ∷ []))

-- a start with this tolerance: its reply
unfoldable pub started : ℕ → ℕ
started t = (Start.start_spec (replicate state_words 7) t xyz).reply.code

-- a block with this TURN: its reply
unfoldable pub turning : ℕ → ℕ
turning t = get_or (asked w0·1 (pushing (replicate row_words 7) (row 1 2 (c_turn ∷ t ∷ [])) ∷ [])) 0 9

-- from (0,0) to (10,0) with this CR, by G2 and G3: the warning
unfoldable pub chord : ℕ → ℕ → ℕ
chord motion cr = get_or (asked w0·1 (from 0 0 ∷ pushing (replicate (9 * row_words) 7) (row 2 motion (0 ∷ w10 ∷ 1 ∷ 0 ∷ c_cr ∷ cr ∷ [])) ∷ [])) 2 9

-- the full circle of radius 10 at this tolerance: the count
unfoldable pub circle : ℕ → ℕ
circle t = get_or (asked t (from w10 0 ∷ pushing (replicate (3 * row_words) 7) (row 2 4 (0 ∷ w10 ∷ 1 ∷ 0 ∷ c_offset ∷ -w10 ∷ [])) ∷ [])) 1 9

-- a B-spline from (0,0) by (10,0) to (10,10), at tolerance 100
unfoldable pub bent : List ℕ
bent =
    asked w100
    (from 0 0
    ∷ pushing [] (row 2 6 (0 ∷ w10 ∷ 1 ∷ 0 ∷ []))
    ∷ pushing [] (row 3 0 (0 ∷ w10 ∷ 1 ∷ w10 ∷ []))
    ∷ closing (replicate (3 * row_words) 7) ∷ [])

-- 0, -1, NaN and infinity are refused by 1
pub tolerances : map started (0 ∷ 0xbff0000000000000 ∷ 0x7ff8000000000000 ∷ 0x7ff0000000000000 ∷ []) ≡ 1 ∷ 1 ∷ 1 ∷ 1 ∷ []
unfolding started Start.start_spec State.tol_ok
tolerances = refl

-- 1,000 turns pass, 1,000.4 do not
pub turns : map turning (0x408f400000000000 ∷ 0x408f433333333333 ∷ []) ≡ 0 ∷ 5 ∷ []
unfolding asked turning row
turns = refl

-- CR 4.999 warns 3, CR 4.9999999995 does not
pub chords_2 : map (chord 3) (0x4013fef9db22d0e5 ∷ 0x4013fffffff768fa ∷ []) ≡ 3 ∷ 0 ∷ []
unfolding asked chord from row
chords_2 = refl

pub chords_3 : map (chord 4) (0x4013fef9db22d0e5 ∷ 0x4013fffffff768fa ∷ []) ≡ 3 ∷ 0 ∷ []
unfolding asked chord from row
chords_3 = refl

-- 2 rows at tolerance 10, 1 at 30
pub circles : map circle (w10 ∷ w30 ∷ []) ≡ 2 ∷ 1 ∷ []
unfolding asked circle from row
circles = refl

-- a row with no axes, then (10,10), unmarked
pub bspline : bent ≡ 0 ∷ 2 ∷ 0 ∷ row 2 2 [] ++ row 3 0 (0 ∷ w10 ∷ 1 ∷ w10 ∷ [])
unfolding asked bent from row
bspline = refl
