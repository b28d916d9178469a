-- Each return is one lemma of MakeSteps.
use Rattle.products.proofs.MakeSteps.{make_steps}
use Rattle.products.proofs.Maker.+process_walk.Goals as goal

pub make_form-returns-in-Nil-clause-makes : goal.make_form-returns-in-Nil-clause-makes
make_form-returns-in-Nil-clause-makes t c = search make_steps

pub make_form-returns-in-Par-clause-makes : goal.make_form-returns-in-Par-clause-makes
make_form-returns-in-Par-clause-makes t c = search make_steps

pub make_form-returns-in-New-clause-makes : goal.make_form-returns-in-New-clause-makes
make_form-returns-in-New-clause-makes t c = search make_steps

pub make_form-returns-in-Input-clause-makes : goal.make_form-returns-in-Input-clause-makes
make_form-returns-in-Input-clause-makes t c = search make_steps

pub make_par-returns-clause-makes : goal.make_par-returns-clause-makes
make_par-returns-clause-makes t c = search make_steps

pub make_process-returns-then-thread-eq0-clause-makes : goal.make_process-returns-then-thread-eq0-clause-makes
make_process-returns-then-thread-eq0-clause-makes t c = search make_steps

pub make_under-returns-clause-makes : goal.make_under-returns-clause-makes
make_under-returns-clause-makes t c = search make_steps
