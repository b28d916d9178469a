-- The walk over a process finds the acts of the tree at its place: each return is one lemma of WalkSteps.
use borrow.Author.Rules.{rules}
use Rattle.inference.proofs.WalkSteps.{
  no_nest,
  no_byte,
  at_nil,
  at_no_code,
  new_room,
  input_room,
  short_output,
  untyped_new,
  untyped_input,
  new_walked,
  repl_walked,
  input_walked,
  output_walked,
  par_walked,
}
use Rattle.inference.proofs.Walker.+process.Goals as goal

pub returns-then-spot-eq0 : goal.returns-then-spot-eq0
returns-then-spot-eq0 t c = no_nest c.args.self.now c.args.context _ _ _ c.if-spot-eq0.true

pub returns-then-sheet-at : goal.returns-then-sheet-at
returns-then-sheet-at t c = no_byte c.args.self.now c.args.context _ _ _ c.if-sheet-at.true

pub returns-then-names-ge64 : goal.returns-then-names-ge64
returns-then-names-ge64 t c = new_room c.args.self.now c.args.context _ _ _ c.if-spot-eq0.false c.if-sheet-at.false c.in-3.is c.if-names-ge64.true

pub returns-in_default-read : goal.returns-in_default-read
returns-in_default-read t c = untyped_new c.args.self.now c.args.context _ _ _ c.if-spot-eq0.false c.if-sheet-at.false _ c.if-names-ge64.false _ c.in_default-read.is c.in-3.is c.type_at-read.ensures

pub returns-then-names-ge64-2 : goal.returns-then-names-ge64-2
returns-then-names-ge64-2 t c = input_room c.args.self.now c.args.context _ _ _ c.if-spot-eq0.false c.if-sheet-at.false c.in-5.is c.if-names-ge64-2.true

pub returns-in_default-read-2 : goal.returns-in_default-read-2
returns-in_default-read-2 t c = untyped_input c.args.self.now c.args.context _ _ _ c.if-spot-eq0.false c.if-sheet-at.false _ c.if-names-ge64-2.false _ c.in_default-read-2.is c.in-5.is c.type_at-read-in-5.ensures

pub returns-then-sheet-at-2 : goal.returns-then-sheet-at-2
returns-then-sheet-at-2 t c = short_output c.args.self.now c.args.context _ _ _ c.if-spot-eq0.false c.if-sheet-at.false c.in-6.is c.if-sheet-at-2.true

pub returns-in-0 : goal.returns-in-0
returns-in-0 t c = at_nil c.args.self.now c.args.context _ _ _ c.if-spot-eq0.false c.if-sheet-at.false c.in-0.is

pub returns-in-1 : goal.returns-in-1
returns-in-1 t c = par_walked c.args.self.now c.args.context _ _ _ c.if-spot-eq0.false c.if-sheet-at.false _ _ c.process.new.self _ c.in-1.is c.process.ensures c.process-in-1.ensures

pub returns-in-Ok : goal.returns-in-Ok
returns-in-Ok t c = new_walked c.args.self.now c.args.context _ _ _ c.if-spot-eq0.false c.if-sheet-at.false _ _ c.in-Ok.t c.in-Ok.ensures c.if-names-ge64.false c.in-3.is (search rules) c.process-in-3.ensures

pub returns-in-Ok-read : goal.returns-in-Ok-read
returns-in-Ok-read t c = input_walked c.args.self.now c.args.context _ _ _ c.if-spot-eq0.false c.if-sheet-at.false _ _ c.act.new.self c.in-Ok-read.t c.in-Ok-read.ensures c.if-names-ge64-2.false c.in-5.is (search rules) _ c.byte_in.ensures.value
    (rw c.type_of-channel.ensures at c.act.ensures) c.process-in-5.ensures

pub returns-else-sheet-at-2 : goal.returns-else-sheet-at-2
returns-else-sheet-at-2 t c = output_walked c.args.self.now c.args.context _ _ _ c.if-spot-eq0.false c.if-sheet-at.false _ _ c.act-in-6.new.self _ _ c.in-6.is c.if-sheet-at-2.false c.byte_in-in-6.ensures.value c.byte_in-in-6-2.ensures.value
    (rw (c.type_of-channel-in-6.ensures, c.type_of-object.ensures) at c.act-in-6.ensures) c.process-in-6.ensures

pub returns-in-7 : goal.returns-in-7
returns-in-7 t c = repl_walked c.args.self.now c.args.context _ _ _ c.if-spot-eq0.false c.if-sheet-at.false _ _ c.in-7.is c.process-in-7.ensures

pub returns-in_default : goal.returns-in_default
returns-in_default t c = at_no_code c.args.self.now c.args.context _ _ _ c.if-spot-eq0.false c.if-sheet-at.false (search rules) (search rules) (search rules) (search rules) (search rules) (search rules)
