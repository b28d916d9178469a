-- All definitions that `need` is computed with, under one name (a worked case says `unfolding need_computed`).
use Rattle.needs.specs.Needs.{link_to, carries, case_need, channel_need, need}

unfoldable pub need_computed : Unit {0}
unfolding link_to carries case_need channel_need need
need_computed = tt
