-- The services `upgrade` and `downgrade` (document 02, Q-7): their answers, and the final content of the lent output.
use Rattle.std.specs.Prelude.{ℕ, List, [], length, leb}
use Rattle.reading.specs.System.{sheet_of_in}
use Rattle.reading.specs.declared.Dialect.TheVariants.{Old as old, Current as current}
use Rattle.encoding.specs.Encoding.{sheet_bytes, purposes, all_zero}
use Rattle.service.specs.Questions.{Asked, ask, after_reading}
use Rattle.service.specs.Check.{Outcome, fitting, written}

-- "A tool turns an old sheet that passes 1 to 6 into the new form, purpose 0 at each post": questions 1 to 6 of the old form; "where the
-- new form would not [fit in 4,096 bytes], the tool itself refuses with 1, after question 6"; "last comes 19, an output shorter than the
-- result". There is no charter: question 1 is of the sheet alone.
unfoldable pub new_form : List ℕ → List ℕ → Asked (List ℕ)
new_form s output =
    after_reading (sheet_of_in old s []) (λ sheet.
    ask 1 (leb (length (sheet_bytes current sheet)) 4096)
    (fitting output (sheet_bytes current sheet)))

-- "and turns a new one back": questions 1 to 6 of the new form; "41, a purpose other than 0 on the way back, asked after question 6"; and 19.
unfoldable pub old_form : List ℕ → List ℕ → Asked (List ℕ)
old_form s output =
    after_reading (sheet_of_in current s []) (λ sheet.
    ask 41 (all_zero (purposes sheet.system))
    (fitting output (sheet_bytes old sheet)))

-- "answering the length written"; a refused call leaves the output untouched, an accepted one the bytes past what it writes.
unfoldable pub upgraded : List ℕ → List ℕ → Outcome
upgraded s output = written output (new_form s output)

unfoldable pub downgraded : List ℕ → List ℕ → Outcome
downgraded s output = written output (old_form s output)
