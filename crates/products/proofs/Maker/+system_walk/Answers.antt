-- Each return is one lemma of SystemSteps.
use Rattle.products.proofs.SystemSteps.{system_steps, made_after}
use Rattle.products.proofs.Maker.+system_walk.Goals as goal

pub make_system-returns-then-thread-eq0-clause-makes : goal.make_system-returns-then-thread-eq0-clause-makes
make_system-returns-then-thread-eq0-clause-makes t c = search system_steps

pub make_system_form-returns-in-Par-clause-makes : goal.make_system_form-returns-in-Par-clause-makes
make_system_form-returns-in-Par-clause-makes t c = search system_steps

pub make_system_form-returns-in-Group-clause-makes : goal.make_system_form-returns-in-Group-clause-makes
make_system_form-returns-in-Group-clause-makes t c = search system_steps

pub make_system_form-returns-in-New-clause-makes : goal.make_system_form-returns-in-New-clause-makes
make_system_form-returns-in-New-clause-makes t c = search system_steps

pub make_system_form-returns-in-Component-clause-makes : goal.make_system_form-returns-in-Component-clause-makes
make_system_form-returns-in-Component-clause-makes t c = search system_steps

pub make_system_form-returns-in-Nil-clause-makes : goal.make_system_form-returns-in-Nil-clause-makes
make_system_form-returns-in-Nil-clause-makes t c = search system_steps

pub make_system_par-returns-clause-makes : goal.make_system_par-returns-clause-makes
make_system_par-returns-clause-makes t c =
    made_after c.args.self.now c.make_system-left.new.self c.make_system.new.self _ _ _ _ _ c.make_system-left.ensures.kept c.make_system-left.ensures.makes c.make_system.ensures.makes

pub make_system_under-returns-clause-makes : goal.make_system_under-returns-clause-makes
make_system_under-returns-clause-makes t c = search system_steps
