-- What a walk over a tree leaves in the table of decoded forms.
use Rattle.std.specs.Prelude.{ℕ, suc, ◌+◌, ◌<◌, ◌≤◌, ◌≡◌, List, length, get_or}
use Rattle.reading.specs.Read.{got}
use Rattle.reading.specs.Syntax.{Process, System, parₛ, components}
use Rattle.reading.specs.System.{read_process, system_from, read_system}
use Rattle.reading.specs.declared.Place.{Place}
use Rattle.decoding.specs.declared.Item.{Item}
use Rattle.decoding.specs.Words.{packed}
use Rattle.decoding.specs.Tables.{process_in, system_in}

-- Two tables have the same numbers from a place up to another.
abbrev pub Alike : ℕ → ℕ → List ℕ → List ℕ → Type 0
Alike from to forms other = (i : ℕ) → from ≤ i → i < to → get_or forms i 0 ≡ get_or other i 0

-- A walk from `at` to `end` writes only there, and whoever finds there what it wrote finds the tree: `tree forms` is the tree that
-- a table holds.
pub record Noted {A : Type 0} (tree : List ℕ → A) (wanted : A) (at end : ℕ) (before after : List ℕ) (r : ℕ) : Type 0 where
  pub next : r ≡ end
  pub earlier : (i : ℕ) → i < at → get_or after i 0 ≡ get_or before i 0
  pub later : (i : ℕ) → end ≤ i → get_or after i 0 ≡ get_or before i 0
  pub decoded : (forms : List ℕ) → Alike at end forms after → tree forms ≡ wanted

-- The same of a walk that stores a number at `at` and notes a tree after it.
pub record Headed {A : Type 0} (tree : List ℕ → A) (wanted : A) (word at end : ℕ) (before after : List ℕ) (r : ℕ) : Type 0 where
  pub noted : Noted tree wanted at end before after r
  pub head : get_or after at 0 ≡ word

-- A table with a number for each place of the sheet.
pub record Fitted (s forms : List ℕ) : Type 0 where
  pub short : length s ≤ 4096
  pub long : length s ≤ length forms

-- What the walks promise of a process that the reader reads: of one at a place; of a form over one.
abbrev pub ProcessNoted : List ℕ → ℕ → ℕ → List ℕ → List ℕ → ℕ → Type 0
ProcessNoted s at nest before after r =
    Fitted s before → (names : ℕ) (p : Process) (end : ℕ) → read_process nest s names at ≡ got p end
    → Noted (λ forms. process_in nest forms at) p at end before after r

abbrev pub PartNoted : List ℕ → ℕ → ℕ → Item → List ℕ → List ℕ → ℕ → Type 0
PartNoted s at nest item before after r =
    Fitted s before → at < length s → at < item.next → (names : ℕ) (p : Process) (end : ℕ) → read_process nest s names item.next ≡ got p end
    → Headed (λ forms. process_in nest forms item.next) p (packed item) at end before after r

-- The same of a system: of one at a place; of one that begins with a form; of a form with one part, and with two.
abbrev pub SystemNoted : List ℕ → ℕ → ℕ → List ℕ → List ℕ → ℕ → Type 0
SystemNoted s at nest before after r =
    Fitted s before → (names : ℕ) (path : List ℕ) (preceding : ℕ) (p : System) (end : ℕ) → read_system nest s names path preceding at ≡ got p end
    → Noted (λ forms. system_in nest forms at) p at end before after r

abbrev pub SystemFormNoted : List ℕ → ℕ → ℕ → Place → List ℕ → List ℕ → ℕ → Type 0
SystemFormNoted s at nest place before after r =
    Fitted s before → (names : ℕ) (path : List ℕ) (preceding : ℕ) (p : System) (end : ℕ)
    → system_from (λ ns q k m. read_system nest s ns q k m) (λ m. read_process nest s names m) at names path preceding place.form place.next ≡ got p end
    → Noted (λ forms. system_in (suc nest) forms at) p at end before after r

abbrev pub SystemPartNoted : List ℕ → ℕ → ℕ → Item → List ℕ → List ℕ → ℕ → Type 0
SystemPartNoted s at nest item before after r =
    Fitted s before → at < length s → at < item.next → (names : ℕ) (path : List ℕ) (preceding : ℕ) (p : System) (end : ℕ)
    → read_system nest s names path preceding item.next ≡ got p end
    → Headed (λ forms. system_in nest forms item.next) p (packed item) at end before after r

abbrev pub SystemPartsNoted : List ℕ → ℕ → ℕ → ℕ → List ℕ → List ℕ → ℕ → Type 0
SystemPartsNoted s at nest next before after r =
    Fitted s before → at < length s → at < next → (names : ℕ) (path : List ℕ) (preceding : ℕ) (p q : System) (middle end : ℕ)
    → read_system nest s names path preceding next ≡ got p middle
    → read_system nest s names path (preceding + components p) middle ≡ got q end
    → Noted (λ forms. system_in (suc nest) forms at) (parₛ p q) at end before after r
