-- The part of what was made, put in place of others.
use Rattle.std.proofs.Common.{◌≡◌, ◌+◌, ◌-◌, length, take, drop, arith, length-drop}
use lib.Seq.{length-take-le}
use Rattle.memory.proofs.threads.splice.Goals as goal

pub replace-requires : goal.replace-requires
replace-requires c =
    let part : c.args.first + c.args.count - c.args.first ≡ c.args.count = omega arith in
    let long : length (take c.args.count (drop c.args.first c.args.made.now)) ≡ c.args.count =
    length-take-le c.args.count (drop c.args.first c.args.made.now) (omega (arith, length-drop c.args.first c.args.made.now)) in
    rw (part, long) (omega arith, omega arith, omega arith, omega arith, omega arith)

pub returns : goal.returns
returns c =
    let part : c.args.first + c.args.count - c.args.first ≡ c.args.count = omega arith in
    let long : length (take c.args.count (drop c.args.first c.args.made.now)) ≡ c.args.count =
    length-take-le c.args.count (drop c.args.first c.args.made.now) (omega (arith, length-drop c.args.first c.args.made.now)) in
    rw (part, long) at c.replace.ensures
