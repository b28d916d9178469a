-- The numbers of an interface's bytes are bytes: kinds, groups, lengths, purposes and maps are small, and counts are stored by their
-- low and high byte.
use Prim.Native.Nat.{ℕ, suc, ◌/◌, ◌%◌, ◌<◌, ◌≤◌}
use mathlib.Core.List.{List, [], ◌∷◌}
use mathlib.Core.Bool.{Bool, true, false, not}
use native.Mathlib.Omega.{arith}
use lib.ListN.{length, get_or}
use Rattle.reading.specs.Syntax.{Sheet}
use Rattle.reading.proofs.TreeLaws.{SheetParts}
use Rattle.inference.specs.Lists.{gather}
use Rattle.inference.specs.Counts.{count_number, is_zero}
use Rattle.inference.specs.Acts.{Act, Component, Located, acts_of}
use Rattle.inference.specs.Needs.{disclosed}
use Rattle.inference.specs.Interface.{Disclosure, Entry, disclosures_of, entry_of, is_empty, holds_any, entries_of, interface, bit, map_of, disclosure_bytes, list_bytes, head_then, entry_bytes, interface_bytes}
use Rattle.interface.proofs.Alls.{All, done, also, all_map, all_append, all_chosen}
use Rattle.interface.proofs.TableLaws.{FitsRow, AllStorable, store_none, store_more}
use Rattle.interface.proofs.StoreLaws.{sheet_storable}
use Rattle.interface.proofs.InterfaceLaws.{chosen_few}
use Rattle.interface.proofs.WriteLaws.{Bytes, no_byte, a_byte, bytes_append}

-- one byte more
pub byte_more : (b : ℕ) {bs : List ℕ} → b < 256 → Bytes bs → Bytes (b ∷ bs)
byte_more b p more = a_byte p more

-- a path that fits a row is bytes
path_bytes : (path : List ℕ) → ((i : ℕ) → i < length path → get_or path i 0 < 64) → Bytes path
path_bytes [] h = no_byte
path_bytes (g ∷ rest) h =
    let first : g < 64 = h 0 (omega arith) in
    byte_more g (omega arith) (path_bytes rest (λ i p. h (suc i) (omega arith)))

-- An entry that can be stored in bytes.
pub record Small (e : Entry) : Type 0 where
  pub kind : e.kind < 16
  pub path : FitsRow e.component.path
  pub purpose : e.component.purpose < 16
  pub few : length e.disclose ≤ 64
  pub groups : All (λ d. d.group < 64) e.disclose

-- Its bytes are bytes.
pub gather_bytes : {A : Type 0} {f : A → List ℕ} {xs : List A} → All (λ x. Bytes (f x)) xs → Bytes (gather f xs)
unfolding gather
gather_bytes done = no_byte
gather_bytes (also b bs) = bytes_append b (gather_bytes bs)

item_bytes : (d : Disclosure) → d.group < 64 → Bytes (disclosure_bytes d)
unfolding disclosure_bytes
item_bytes d h =
    byte_more d.group (omega arith) (byte_more (count_number d.count % 256) (omega arith)
    (byte_more (count_number d.count / 256 % 256) (omega arith) no_byte))

list_bytes_lem : (ds : List Disclosure) → length ds ≤ 64 → All (λ d. d.group < 64) ds → Bytes (list_bytes ds)
unfolding list_bytes
list_bytes_lem [] few low = no_byte
list_bytes_lem (d ∷ ds) few low = byte_more (length (d ∷ ds)) (omega arith) (gather_bytes (all_map item_bytes low))

bit_small : (b : Bool) (v : ℕ) → bit b v ≤ v
unfolding bit
bit_small true v = omega arith
bit_small false v = omega arith

map_small : (e : Entry) → map_of e < 256
unfolding map_of
map_small e = omega (arith, bit_small e.read 1, bit_small e.write 2, bit_small e.access 4, bit_small (not (is_empty e.disclose)) 16)

pub head_bytes : (e : Entry) (rest : List ℕ) → Small e → Bytes rest → Bytes (head_then e rest)
head_bytes e rest s more =
    byte_more e.kind (omega (arith, s.kind)) (byte_more (length e.component.path) (omega (arith, s.path.short))
    (bytes_append (path_bytes e.component.path s.path.groups)
    (byte_more e.component.purpose (omega (arith, s.purpose)) (byte_more (map_of e) (map_small e) more))))

entry_bytes_lem : (e : Entry) → Small e → Bytes (entry_bytes e)
unfolding entry_bytes
entry_bytes_lem e s = head_bytes e (list_bytes e.disclose) s (list_bytes_lem e.disclose s.few s.groups)

-- The entries of a sheet that was read are small.
entry_small : (c : Component) (acts : List Act) (k : ℕ) → FitsRow c.path → c.purpose < 16 → k < 16 → Small (entry_of c acts k)
unfolding entry_of disclosures_of
entry_small c acts k p q h = record {
  kind = h;
  path = p;
  purpose = q;
  few = chosen_few (λ d. not (is_zero d.count)) (λ g. record { group = g; count = disclosed k g acts }) 0 64;
  groups = all_chosen (λ d. not (is_zero d.count)) (λ g. record { group = g; count = disclosed k g acts }) 0 64 (λ g l. l);
}

all_small : (n : ℕ) {ls : List Located} → AllStorable n ls → All Small (gather entries_of ls)
unfolding gather entries_of
all_small n store_none = done
all_small n (store_more {l = l} ok more) =
    all_append (all_chosen holds_any (entry_of l.component (acts_of l)) 0 16 (λ k h. entry_small l.component (acts_of l) k ok.fits ok.purpose_low h)) (all_small (suc n) more)

pub interface_small : (s charter : List ℕ) (sheet : Sheet) (k : ℕ) → SheetParts s charter sheet k → All Small (interface sheet)
unfolding interface
interface_small s charter sheet k h = all_small 0 (sheet_storable s charter sheet k h)

-- An interface's bytes are bytes.
pub interface_bytes_lem : (s charter : List ℕ) (sheet : Sheet) (k : ℕ) → SheetParts s charter sheet k → Bytes (interface_bytes (interface sheet))
unfolding interface_bytes
interface_bytes_lem s charter sheet k h = gather_bytes (all_map entry_bytes_lem (interface_small s charter sheet k h))
