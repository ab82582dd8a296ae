-- A search that goes from key to key. No public contract cites these words.
use Rattle.std.specs.Prelude.{List, Bool, not, ◌&&◌, ◌||◌, nat_lt, length, find, Option, Some, None, if◌then◌else◌}
use Rattle.std.specs.List.{list_any}
use Rattle.key_lists.specs.Lists.{KeyEntry}
use Rattle.talks.specs.Calls.{Found, AsksKey, Denied, NoneServes}
use Rattle.talks.specs.Searches.{is_passed_over, one_left}
use Rattle.talks.specs.declared.said.Said.{Said}
use Rattle.talks.specs.declared.said.Asking.{Asking}

-- what is found where no key is left, and some were passed over or none
abbrev pub none_past : Bool → Said → Asking → Found
none_past passed said asking =
    if passed || nat_lt 0 (length said.denied) then Denied
    else if asking.needkey && not said.asked then AsksKey
    else NoneServes

-- what is made of the first key that is left, or of whether some were passed over
abbrev pub past_at : (Bool → Found) → (KeyEntry → Found) → Option KeyEntry → Bool → Found
past_at none one (Some key) passed = one key
past_at none one None passed = none passed

-- the same of keys of which those are passed over that pass a test
abbrev pub past : Bool → (KeyEntry → Bool) → (Bool → Found) → (KeyEntry → Found) → List KeyEntry → Found
past passed test none one keys = past_at none one (find (λ key. not (test key)) keys) (passed || list_any test keys)

-- what is found among further keys, where some before them were passed over or none
abbrev pub found_past : Bool → Said → Asking → List KeyEntry → Found
found_past passed said asking keys =
    past passed (is_passed_over said asking) (λ some. none_past some said asking) (one_left said) keys
