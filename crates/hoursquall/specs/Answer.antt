-- An answer as C is told it: a number, and what was lent for the answer.
-- Assumes nothing.
use Rattle.std.specs.Prelude.{ℕ, Result, Ok, Err}

-- 0 where there is an answer, else the number of the refusal
abbrev pub told : {T R : Type 0} → (R → ℕ) → Result T R → ℕ
told number_of (Ok answered) = 0
told number_of (Err reason) = number_of reason

-- the numbers of what is answered; a refusal leaves what was lent as it was
abbrev pub left_lent : {T N R : Type 0} → (T → N) → Result T R → N → N
left_lent numbers_of (Ok answered) before = numbers_of answered
left_lent numbers_of (Err reason) before = before

-- of an answer that is a number, and of one that only says that it is done
abbrev pub itself : {N : Type 0} → N → N
itself n = n
