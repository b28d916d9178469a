-- What a walk does with the tables that it is lent.
use Rattle.std.specs.Prelude.{ℕ, ◌≡◌, length}
use Rattle.reading.specs.Syntax.{Process, System}
use Rattle.memory.specs.declared.Thread.{Thread as Place}
use Rattle.products.specs.declared.Maker.{Maker}
use Rattle.products.specs.declared.MadeSystem.{MadeSystem}
use Rattle.products.specs.declared.Sizes.{Sizes}
use Rattle.products.specs.Makes.{Ready, Makes, MakesSystem, Gives}

-- The same tables, as long as they were; the forms as they were.
pub record Kept (m m' : Maker) : Type 0 where
  pub forms : m'.forms.now ≡ m.forms.now
  pub made : m'.made.ghost_name ≡ m.made.ghost_name
  pub types : m'.types.ghost_name ≡ m.types.ghost_name
  pub cells : m'.cells.ghost_name ≡ m.cells.ghost_name
  pub made_length : length m'.made.now ≡ length m.made.now
  pub types_length : length m'.types.now ≡ length m.types.now
  pub cells_length : length m'.cells.now ≡ length m.cells.now

-- What one name given leaves in the tables.
pub record GivesIn (m : Maker) (z : Sizes) (t env : ℕ) (m' : Maker) (r : Sizes) : Type 0 where
  pub kept : Kept m m'
  pub made : m'.made.now ≡ m.made.now
  pub gives : Gives z t env m.types.now m'.types.now m.cells.now m'.cells.now r

-- What a walk over a process, and over a system, makes of it, where the tables are ready for it.
abbrev pub ReadyIn : Maker → Place → Sizes → Type 0
ReadyIn m t z = Ready t z m.made.now m.types.now m.cells.now

abbrev pub MakesIn : Maker → Place → Process → Sizes → Maker → Sizes → Type 0
MakesIn m t p z m' r =
    ReadyIn m t z → Makes m.forms.now t p z m.made.now m'.made.now m.types.now m'.types.now m.cells.now m'.cells.now r

abbrev pub MakesSystemIn : Maker → Place → System → Sizes → Maker → MadeSystem → Type 0
MakesSystemIn m t p z m' r =
    ReadyIn m t z → MakesSystem m.forms.now t p z m.made.now m'.made.now m.types.now m'.types.now m.cells.now m'.cells.now r
