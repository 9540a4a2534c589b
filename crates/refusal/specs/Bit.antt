-- How a yes or no that goes with an answer is told as a number. Assumes nothing.
use Rattle.std.specs.Prelude.{ℕ, Bool, true, false}

-- yes is 1
abbrev pub bit : Bool → ℕ
bit true = 1
bit false = 0
