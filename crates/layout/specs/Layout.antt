-- DEFINITIONS. The layout: each number of a row, a saved state and a store, named once. Assumes nothing.
use Rattle.std.specs.Prelude.{ℕ, ◌+◌, ◌-◌, ◌^◌}

-- ---- What is chosen; the rest of this file follows from it.
-- X Y Z A B C U V W E, then A2 B2 C2 U2 V2 W2
abbrev pub axis_codes : ℕ
axis_codes = 16

-- N F S D T, which ride on a group's first row
abbrev pub rider_codes : ℕ
rider_codes = 5

-- Blocks that a spline holds at most, and its degree at most
abbrev pub most_held : ℕ
most_held = 256

abbrev pub most_degree : ℕ
most_degree = 256

-- ---- Cells of a row: the axes, what rides, then I J K CR TURN PW SD PL
-- Codes that an axis list may name: it is no longer than they are
abbrev pub list_codes : ℕ
list_codes = axis_codes + rider_codes

abbrev pub last_code : ℕ
last_code = list_codes - 1

-- I, then J, then K, as the axes X, Y, Z
abbrev pub c_offset : ℕ
c_offset = list_codes

abbrev pub c_cr : ℕ
c_cr = c_offset + 3

abbrev pub c_turn : ℕ
c_turn = c_cr + 1

abbrev pub c_pw : ℕ
c_pw = c_turn + 1

abbrev pub c_sd : ℕ
c_sd = c_pw + 1

abbrev pub c_pl : ℕ
c_pl = c_sd + 1

abbrev pub cells : ℕ
cells = c_pl + 1

-- Masks of cells, of the codes of a list and of axes are below these
abbrev pub cell_masks : ℕ
cell_masks = 2 ^ cells

abbrev pub list_masks : ℕ
list_masks = 2 ^ list_codes

abbrev pub axis_masks : ℕ
axis_masks = 2 ^ axis_codes

-- ---- Words of a row: line, motion, plane, mark, carry, presence, the cells
abbrev pub r_line : ℕ
r_line = 0

abbrev pub r_motion : ℕ
r_motion = 1

abbrev pub r_plane : ℕ
r_plane = 2

abbrev pub r_mark : ℕ
r_mark = 3

abbrev pub r_carry : ℕ
r_carry = 4

abbrev pub r_present : ℕ
r_present = 5

abbrev pub r_cells : ℕ
r_cells = 6

abbrev pub row_words : ℕ
row_words = r_cells + cells

-- A line number has 32 bits
abbrev pub line_numbers : ℕ
line_numbers = 2 ^ 32

-- ---- Words of a saved state: tolerance, how many axes, their codes, motion, plane, known axes and their positions, warned
-- words, axes of the curve start and their positions, degree, blocks held
abbrev pub w_tolerance : ℕ
w_tolerance = 0

abbrev pub w_axis_count : ℕ
w_axis_count = 1

abbrev pub w_axes : ℕ
w_axes = 2

abbrev pub w_motion : ℕ
w_motion = w_axes + list_codes

abbrev pub w_plane : ℕ
w_plane = w_motion + 1

abbrev pub w_known : ℕ
w_known = w_plane + 1

abbrev pub w_warned : ℕ
w_warned = w_known + 1 + axis_codes

abbrev pub w_start : ℕ
w_start = w_warned + 1

abbrev pub w_degree : ℕ
w_degree = w_start + 1 + axis_codes

abbrev pub w_held : ℕ
w_held = w_degree + 1

abbrev pub state_words : ℕ
state_words = w_held + 1

-- ---- Points of a curve: its start, and one for each block
abbrev pub most_points : ℕ
most_points = most_held + 1
