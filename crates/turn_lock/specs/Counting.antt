-- For the tests of this crate alone: a counter whose calls are numbered.
use Rattle.std.specs.Prelude.{◌≡◌, ℕ, zero, suc, List, [], ◌∷◌, ◌++◌, true, false}
use Rattle.turn_lock.specs.Fronts.{Front, among, events, own}

-- the calls from 0 up to n, the newest first
abbrev pub countdown : ℕ → List ℕ
countdown zero = []
countdown (suc n) = n ∷ countdown n

-- of the entries some numbers have made each call once and in order, and so have some others
pub record IsCountedByTwo (turns : ℕ) (numbers : List ℕ) (front : Front ℕ) : Type 0 where
  pub one : List ℕ
  pub other : List ℕ
  pub all_numbers : numbers ≡ one ++ other
  pub apart : (n : ℕ) → among one n ≡ true → among other n ≡ false
  pub by_one : events (own one front) ≡ countdown turns
  pub by_other : events (own other front) ≡ countdown turns
