-- The first question that any act fails decides questions 7 to 10, each put to the whole: it is 7 where not every act has its
-- names in scope, else 8 where not every act is on a channel, and so on, and 11 where all pass.
use Prim.Native.Nat.{ℕ, ◌≤◌, min}
use mathlib.Core.Path.{◌≡◌, refl, sym, ap, ap₂, ◌∙◌}
use mathlib.Core.List.{List, [], ◌∷◌}
use mathlib.Core.Bool.{Bool, true, false, cond, ◌&&◌}
use native.Mathlib.Omega.{arith}
use Rattle.reading.specs.Syntax.{Sheet}
use Rattle.inference.specs.Lists.{every, gather}
use Rattle.inference.specs.Acts.{Act, Located, acts_of, located, sheet_acts}
use Rattle.inference.specs.Typing.{in_scope, on_channel, carries_object, in_path}
use Rattle.inference.specs.Walks.{fault, fault_of, worst, worst_all}
use Rattle.inference.proofs.WalkLaws.{worst_append}

-- the first of four questions that is answered no
unfoldable pub first_no : Bool → Bool → Bool → Bool → ℕ
first_no a b c d = cond a (cond b (cond c (cond d 11 10) 9) 8) 7

least_seven : (a b c d : Bool) → 7 ≤ first_no a b c d
unfolding first_no
least_seven false b c d = omega arith
least_seven true false c d = omega arith
least_seven true true false d = omega arith
least_seven true true true false = omega arith
least_seven true true true true = omega arith

least_eight : (b c d : Bool) → 8 ≤ first_no true b c d
unfolding first_no
least_eight false c d = omega arith
least_eight true false d = omega arith
least_eight true true false = omega arith
least_eight true true true = omega arith

least_nine : (c d : Bool) → 9 ≤ first_no true true c d
unfolding first_no
least_nine false d = omega arith
least_nine true false = omega arith
least_nine true true = omega arith

least_ten : (d : Bool) → 10 ≤ first_no true true true d
unfolding first_no
least_ten false = omega arith
least_ten true = omega arith

first_both : (a b c d e f g h : Bool) → min (first_no a b c d) (first_no e f g h) ≡ first_no (a && e) (b && f) (c && g) (d && h)
unfolding first_no
first_both false b c d e f g h = omega (arith, least_seven e f g h)
first_both true b c d false f g h = omega (arith, least_seven true b c d)
first_both true false c d true f g h = omega (arith, least_eight f g h)
first_both true true c d true false g h = omega (arith, least_eight true c d)
first_both true true false d true true g h = omega (arith, least_nine g h)
first_both true true true d true true false h = omega (arith, least_nine true d)
first_both true true true false true true true h = omega (arith, least_ten h)
first_both true true true true true true true false = refl
first_both true true true true true true true true = refl

-- an act's own first fault, by the tests
fault_tests : (a : Act) → fault_of a ≡ first_no (in_scope a) (on_channel a) (carries_object a) (in_path a)
unfolding fault_of fault first_no in_scope on_channel carries_object in_path
fault_tests a = refl

pub worst_tests : (acts : List Act)
    → worst acts ≡ first_no (every in_scope acts) (every on_channel acts) (every carries_object acts) (every in_path acts)
unfolding worst every
worst_tests [] = unfold first_no in refl
worst_tests (a ∷ rest) =
    ap₂ min (fault_tests a) (worst_tests rest)
    ∙ first_both (in_scope a) (on_channel a) (carries_object a) (in_path a)
    (every in_scope rest) (every on_channel rest) (every carries_object rest) (every in_path rest)

worst_gather : (ls : List Located) → worst_all ls ≡ worst (gather acts_of ls)
unfolding worst_all gather
worst_gather [] = unfold worst in refl
worst_gather (l ∷ rest) = ap (min (worst (acts_of l))) (worst_gather rest) ∙ sym (worst_append (acts_of l) (gather acts_of rest))

-- The walk's answer, by the questions put to the whole sheet.
pub sheet_fault : (sheet : Sheet) → worst_all (located sheet)
    ≡ first_no (every in_scope (sheet_acts sheet)) (every on_channel (sheet_acts sheet)) (every carries_object (sheet_acts sheet)) (every in_path (sheet_acts sheet))
unfolding sheet_acts
sheet_fault sheet = worst_gather (located sheet) ∙ worst_tests (gather acts_of (located sheet))
