-- The walk over a system finds the components of the tree at its place: each return is one lemma of SystemSteps.
use borrow.Author.Rules.{rules}
use Rattle.inference.proofs.SystemSteps.{
  no_form,
  by_form,
  new_opens,
  form_nil,
  form_input,
  form_output,
  form_repl,
  form_par,
  form_new,
  form_head,
  form_group,
}
use Rattle.inference.proofs.Walker.+system_form.Goals as goal

pub form-returns-in-Nil : goal.form-returns-in-Nil
form-returns-in-Nil t c = form_nil c.args.self.now _ _ _ _ _ _ c.in-Nil.is

pub form-returns-in-Par : goal.form-returns-in-Par
form-returns-in-Par t c = form_par c.args.self.now _ _ _ _ _ _ _ _ c.system.new.self _ c.in-Par.is c.system.ensures c.system-in-Par.ensures

pub form-returns-in-Group : goal.form-returns-in-Group
form-returns-in-Group t c = form_group c.args.self.now _ _ _ _ _ _ _ _ _ _ c.in-Group.is c.requires c.with.ensures c.system-in-Group.ensures

pub form-returns-in-New : goal.form-returns-in-New
form-returns-in-New t c = form_new c.args.self.now _ _ _ _ _ _ _ _ _ c.in-New.is (search rules) (new_opens _ _ _ _ c.requires _ c.in-New.is) c.system-in-New.ensures

pub form-returns-in-Component : goal.form-returns-in-Component
form-returns-in-Component t c = form_head c.args.self.now _ _ _ _ _ _ _ _ _ c.in-Component.is c.component.ensures

pub form-returns-in-Input : goal.form-returns-in-Input
form-returns-in-Input t c = form_input c.args.self.now _ _ _ _ _ _ _ c.in-Input.is

pub form-returns-in-Output : goal.form-returns-in-Output
form-returns-in-Output t c = form_output c.args.self.now _ _ _ _ _ _ _ c.in-Output.is

pub form-returns-in-Replicate : goal.form-returns-in-Replicate
form-returns-in-Replicate t c = form_repl c.args.self.now _ _ _ _ _ _ c.in-Replicate.is

pub system-returns-in_default : goal.system-returns-in_default
system-returns-in_default t c = no_form c.args.self.now _ _ _ _ _ c.system_at-read.ensures _ c.in_default.is

pub system-returns : goal.system-returns
system-returns t c = by_form c.args.self.now _ _ _ _ _ c.system_at-read.ensures _ _ _ c.in-Ok.is c.form.ensures
