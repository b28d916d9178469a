-- The numbers of the questions that a sheet, a charter, a script or what is lent can fail: each case of the code's `Question` has the one
-- that docs/REFERENCE.md gives its question.
use Rattle.std.specs.Prelude.{ℕ}
use Rattle.reading.specs.declared.Question.{Question}
use Rattle.reading.specs.declared.Question.TheVariants as question

-- The number of each question.
abbrev pub number_of : Question → ℕ
number_of question.Length = 1
number_of question.Byte = 2
number_of question.NoneLeft = 3
number_of question.Range = 4
number_of question.Limits = 5
number_of question.NewGroup = 6
number_of question.Scope = 7
number_of question.Channel = 8
number_of question.Carried = 9
number_of question.Located = 10
number_of question.Charter = 11
number_of question.Kinds = 12
number_of question.Above = 13
number_of question.Alike = 14
number_of question.Fence = 15
number_of question.Tree = 16
number_of question.Reached = 17
number_of question.Covered = 18
number_of question.Output = 19
number_of question.Start = 20
number_of question.Script = 21
number_of question.Log = 22
number_of question.Names = 40
number_of question.Purposes = 41
