-- The modes in which a file is opened.
use Rattle.std.proofs.Common.{◌≡◌, ◌<◌, ℕ, Bool, true, Option, Some, None, refl, sym, ap, ◌∙◌}
use Rattle.std.specs.Prelude.{◌↔◌, is_none}
use Rattle.std.proofs.lemmas.Bool.{agree_below_at}
use Rattle.file_tree.specs.declared.tree.Node.{Node}
use Rattle.file_tree.specs.declared.tree.Node.TheVariants.{Root, Factotum, Rpc, Ctl, Confirm, Needkey, Proto, Log}
use Rattle.file_tree.specs.declared.fault.FidFault.{FidFault}
use Rattle.file_tree.specs.Calls.{at_rest, open_fault, opens}

-- nothing refuses it
abbrev is_opened : Node → ℕ → Bool
is_opened node mode = is_none (open_fault (Some (at_rest node)) mode)

same_modes : (node : Node) (mode : ℕ) → mode < 256 → is_opened node mode ≡ opens node mode
unfolding open_fault
same_modes Root mode small = agree_below_at (is_opened Root) (opens Root) 256 mode refl small
same_modes Factotum mode small = agree_below_at (is_opened Factotum) (opens Factotum) 256 mode refl small
same_modes Rpc mode small = agree_below_at (is_opened Rpc) (opens Rpc) 256 mode refl small
same_modes Ctl mode small = agree_below_at (is_opened Ctl) (opens Ctl) 256 mode refl small
same_modes Confirm mode small = agree_below_at (is_opened Confirm) (opens Confirm) 256 mode refl small
same_modes Needkey mode small = agree_below_at (is_opened Needkey) (opens Needkey) 256 mode refl small
same_modes Proto mode small = agree_below_at (is_opened Proto) (opens Proto) 256 mode refl small
same_modes Log mode small = agree_below_at (is_opened Log) (opens Log) 256 mode refl small

none_is : (fault : Option FidFault) → is_none fault ≡ true → fault ≡ None
none_is None e = refl
none_is (Some fault) e = absurd cc

pub opened_exactly : (node : Node) (mode : ℕ) → mode < 256 → (open_fault (Some (at_rest node)) mode ≡ None) ↔ (opens node mode ≡ true)
opened_exactly node mode small =
    (λ none. sym (same_modes node mode small) ∙ ap is_none none, λ good. none_is (open_fault (Some (at_rest node)) mode) (same_modes node mode small ∙ good))
