-- The number of what a service answers.
use Rattle.std.specs.Prelude.{ℕ, Option, None, Some}
use Rattle.reading.specs.Questions.{number_of}
use Rattle.reading.specs.declared.Question.{Question}

-- The number of the question that fails, or 64, a number that no question has, where none does.
abbrev pub fault_number : Option Question → ℕ
fault_number None = 64
fault_number (Some q) = number_of q
