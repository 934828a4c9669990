-- LAWS. 8.12: five wrong programs, each shut out by what a push has to answer. Assumes nothing.
use Rattle.std.specs.Prelude.{ℕ, ◌≡◌, refl, List, [], ◌∷◌, length, get_or, replicate, set}
use Rattle.std.proofs.Common.{sym, ◌∙◌, ap, arith}
use Rattle.row_cells.specs.Codes.{geometric_of}
use Rattle.demands.specs.Answers.{push-count}
use Rattle.layout.specs.Layout.{row_words, r_line}
use Rattle.floats.specs.Lists as Lists
use Rattle.floats.specs.Lists.{spliced, flatten}
use Rattle.motion.specs.Motion as Motion
use Rattle.row_cells.specs.Codes as Codes
use Rattle.row_cells.specs.Row as Row
use Rattle.row_cells.specs.Bits as Bits
use Rattle.row_numbers.specs.RowNumbers as RowNumbers
use Rattle.row_check.specs.Check as Check
use Rattle.arc_answer.specs.Arc.{passed}
use Rattle.saved_state.specs.State as State
use Rattle.call_start.specs.Start as Start
use Rattle.call_reply.specs.Replies.{After}
use Rattle.call_start.specs.Start.{fresh}
use Rattle.call_answer.specs.Push as Push
use Rattle.push_resolve.specs.Blocks as Blocks
use Rattle.push_check.specs.Refusal as Refusal
use Rattle.push_state.specs.Pushed as Pushed
use Rattle.call_answer.specs.Answer as Own
use Rattle.call_answer.specs.Push.{push_rows, push_spec}

-- a program's push
abbrev pub Program : Type 0
Program = List ℕ → List ℕ → List ℕ → List ℕ → After

abbrev pub Meets : Program → Type 0
Meets f = (st store rows r : List ℕ) → f st store rows r ≡ push_spec st store rows r

-- axes X Y Z, tolerance 0.1, room for one row, and the block of line n with nothing in it
abbrev begun : List ℕ
begun = fresh 0x3fb999999999999a (0 ∷ 1 ∷ 2 ∷ [])

abbrev room : List ℕ
room = replicate row_words 7

abbrev line : ℕ → List ℕ
line n = set (replicate row_words 0) r_line n

abbrev pushed_line : ℕ → After
pushed_line n = push_spec begun [] room (line n)

abbrev pushed_next : After
pushed_next = push_spec (pushed_line 1).state (pushed_line 1).store room (line 2)

-- each of them is accepted, and writes itself
computed : ((pushed_line 1).reply.code ∷ []) ∷ (pushed_line 1).rows ∷ (pushed_line 2).rows ∷ pushed_next.rows ∷ ((pushed_line 2).reply.code ∷ []) ∷ []
    ≡ (0 ∷ []) ∷ line 1 ∷ line 2 ∷ line 2 ∷ (0 ∷ []) ∷ []
unfolding fresh Start.fresh_word Lists.upto Lists.keep Lists.member Lists.flatten Lists.spliced Motion.kind_of Motion.is_spline Motion.is_other Motion.is_basis
    Motion.is_cubic Codes.plane_ok Codes.geometric_of Bits.has Lists.all Row.cell Row.mask_of Row.row_of Row.out_row Check.shape_ok RowNumbers.within
    RowNumbers.cell_ok
    RowNumbers.numbers_ok RowNumbers.above1000 RowNumbers.turn_ok Check.row_check passed State.geometric State.point_word State.tol_ok State.code_ok
    State.codes_ok
    State.axes_ok State.point_at_ok State.point_ok State.held_ok State.state_ok State.store_ok State.held_rows State.held_row_ok State.saved_check Bits.with_bit
    State.placed Blocks.or_now Blocks.emits Blocks.kept Own.answer_as Own.own_answer Blocks.news Pushed.track_to Pushed.push_state Pushed.push_store
    Push.push_rows
    Refusal.is_full Refusal.push_check Push.push_done Push.push_spec
computed = refl

-- the first word of answer i
word : (i : ℕ)
    → get_or
    (get_or (((pushed_line 1).reply.code ∷ []) ∷ (pushed_line 1).rows ∷ (pushed_line 2).rows ∷ pushed_next.rows ∷ ((pushed_line 2).reply.code ∷ []) ∷ []) i
    []) 0 0
    ≡ get_or (get_or ((0 ∷ []) ∷ line 1 ∷ line 2 ∷ line 2 ∷ (0 ∷ []) ∷ []) i []) 0 0
word i = ap (λ (l : List (List ℕ)). get_or (get_or l i []) 0 0) computed

module _ (f : Program) (m : Meets f) where
  rows_of : (st store rows r : List ℕ) → (f st store rows r).rows ≡ (push_spec st store rows r).rows
  rows_of st store rows r = ap (λ (a : After). a.rows) (m st store rows r)

  -- refusing always
  pub refusing_always : ((st store rows r : List ℕ) → (f st store rows r).reply.code ≡ 0 → ⊥) → ⊥
  refusing_always h = h begun [] room (line 1) (ap (λ (a : After). a.reply.code) (m begun [] room (line 1)) ∙ word 0)

  -- writing nothing
  pub writing_nothing : ((st store rows r : List ℕ) → (f st store rows r).rows ≡ rows) → ⊥
  writing_nothing h =
      let e : ◌≡◌ {A = ℕ} 7 1 = ap (λ (l : List ℕ). get_or l 0 0) (sym (h begun [] room (line 1)) ∙ rows_of begun [] room (line 1)) ∙ word 1 in
      omega arith

  -- one fixed row for every block, by any program that meets the contract
  pub one_fixed_row : (row : List ℕ) → ((st store rows r : List ℕ) → (f st store rows r).reply.code ≡ 0 → (f st store rows r).rows ≡ spliced rows 0 row) → ⊥
  one_fixed_row row h =
      let e : ◌≡◌ {A = ℕ} 1 2 =
      sym (word 1)
      ∙ ap (λ (l : List ℕ). get_or l 0 0)
      (sym (rows_of begun [] room (line 1))
      ∙ h begun [] room (line 1) (code 1 (word 0))
      ∙ sym (h begun [] room (line 2) (code 2 (word 4)))
      ∙ rows_of begun [] room (line 2))
      ∙ word 2 in
      omega arith
    where
      code : (n : ℕ) → (pushed_line n).reply.code ≡ 0 → (f begun [] room (line n)).reply.code ≡ 0
      code n e = ap (λ (a : After). a.reply.code) (m begun [] room (line n)) ∙ e

  -- only the first block's rows: a second push, on what the first left, that writes nothing
  pub only_the_first : ((st store rows r r' : List ℕ) → (f (f st store rows r).state (f st store rows r).store rows r').rows ≡ rows) → ⊥
  only_the_first h =
      let a : After = f begun [] room (line 1) in
      let e : ◌≡◌ {A = ℕ} 7 2 =
      ap (λ (l : List ℕ). get_or l 0 0) (sym (h begun [] room (line 1) (line 2)) ∙ rows_of a.state a.store room (line 2))
      ∙ ap (λ (a : After). get_or (push_spec a.state a.store room (line 2)).rows 0 0) (m begun [] room (line 1))
      ∙ word 3 in
      omega arith

  -- a count made up: with 7 the count is that of the rows of the call
  pub no_invented_count : (st store rows r : List ℕ) → (f st store rows r).reply.code ≡ 7 → (f st store rows r).reply.count ≡ length (push_rows st store r)
  no_invented_count st store rows r z =
      ap (λ (a : After). a.reply.count) (m st store rows r)
      ∙ (push-count st store r rows (sym (ap (λ (a : After). a.reply.code) (m st store rows r)) ∙ z)).1
