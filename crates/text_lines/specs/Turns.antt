-- CONTRACTS. What a turn of the reading loop does with the unread bytes. Assumes nothing.
use Rattle.std.specs.Prelude.{ℕ, ◌≤◌, ◌<◌, ◌≡◌, List, length, take, drop}
use Rattle.text_lines.specs.declared.Turn.{Turn}
use Rattle.text_lines.specs.declared.Found.{Found}
use Rattle.text_cut.specs.Cut.{cut, between}

-- l is the first line of u, and v the bytes behind it
pub record FirstLine (u l v : List ℕ) : Type 0 where
  pub whole : cut u ≤ length u
  pub line : l ≡ take (cut u) u
  pub rest : v ≡ drop (cut u) u

-- v is u, and bytes that came behind it
pub record Grown (u v : List ℕ) : Type 0 where
  pub longer : length u < length v
  pub begins : take (length u) v ≡ u

-- no line stands whole in u, and v is u
pub record NoLine (u v : List ℕ) : Type 0 where
  pub none : length u < cut u
  pub stays : v ≡ u

-- what was found says what became of the unread bytes: they were u, and then are v; n is the room of the buffer, and l is handed on
abbrev pub Told : Found → ℕ → List ℕ → List ℕ → List ℕ → Type 0
Told Found.Line n u l v = FirstLine u l v
Told Found.More n u l v = Grown u v
Told Found.Ended n u l v = NoLine u v
Told Found.Full n u l v = NoLine u v × (length u ≡ n)
Told Found.Failed n u l v = NoLine u v

pub record Turned (b : List ℕ) (at end : ℕ) (b' : List ℕ) (r : Turn) : Type 0 where
  pub start : r.from ≤ r.at
  pub window : r.at ≤ r.end
  pub inside : r.end ≤ length b
  pub same : length b' ≡ length b
  pub told : Told r.found (length b) (between b at end) (between b' r.from r.at) (between b' r.at r.end)
