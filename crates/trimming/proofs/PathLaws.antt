-- No group stands twice in the path of an entry: it is the path of a component of the sheet, and the sheet was read (question 6).
use Prim.Native.Nat.{ℕ}
use mathlib.Core.Bool.{Bool, true}
use mathlib.Core.List.{List, [], ◌∷◌, map}
use mathlib.Core.Path.{◌≡◌, refl, ◌∙◌}
use Rattle.inference.specs.Acts.{Located, acts_of}
use Rattle.inference.specs.Interface.{holds_any, entry_of, entries_of}
use Rattle.inference.specs.Lists.{every, only, gather, rising}
use Rattle.interface.proofs.TableLaws.{NoneTwice, twice_none, twice_more, AllStorable, store_none, store_more}
use Rattle.policy.specs.WellFormed.{distinct}
use Rattle.inference.proofs.EveryLaws.{every_append}
use Rattle.trimming.proofs.TestLaws.{cond_ind, and_both}

distinct_once : {path : List ℕ} → NoneTwice path → distinct path ≡ true
unfolding distinct
distinct_once twice_none = refl
distinct_once (twice_more e once) = rw (e, distinct_once once)

every_kept : {A : Type 0} (q r : A → Bool) (f : ℕ → A) → ((n : ℕ) → q (f n) ≡ true) → (ns : List ℕ) → every q (only r (map f ns)) ≡ true
unfolding every only
every_kept q r f h [] = refl
every_kept q r f h (n ∷ ns) =
    let rest = every_kept q r f h ns in
    cond_ind (λ l. every q l ≡ true) (r (f n)) _ _ (λ e. and_both _ _ (h n) rest) (λ e. rest)

pub entries_once : {n : ℕ} {ls : List Located} → AllStorable n ls → every (λ e. distinct e.component.path) (gather entries_of ls) ≡ true
unfolding every gather entries_of entry_of
entries_once store_none = refl
entries_once (store_more {l = l} {rest = ls} ok more) =
    every_append (λ e. distinct e.component.path) (entries_of l) (gather entries_of ls)
    ∙ rw (own, entries_once more)
  where
    own : every (λ e. distinct e.component.path) (entries_of l) ≡ true
    own = every_kept (λ e. distinct e.component.path) holds_any (entry_of l.component (acts_of l)) (λ k. distinct_once ok.fits.once) (rising 0 16)
