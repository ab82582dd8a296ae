-- The connections that a dialer keeps, by the numbers of the conversations, and which it keeps after an exchange.
-- What they are is optional, since those that several dialers share aren't told. The definitions are the project's
-- own.
use Rattle.std.specs.Prelude.{◌≡◌, ◌≢◌, ℕ, Bool, true, false, Option, Some, None, Result, Ok, Err, ⊤}
use Rattle.std.specs.BTreeMap.{BTreeMap, get}
use Rattle.std.specs.Ordering.{nat_cmp}
use Rattle.wire_base.specs.declared.shape.Shape.{Shape}
use Rattle.wire_base.specs.declared.shape.Shape.TheVariants.{Tickets, Challenge, Vouch}
use Rattle.wire_streams.specs.declared.dialer.Dial.{Dial}
use Rattle.wire_streams.specs.declared.dialer.Dial.TheVariants.{Heard, Failed, NoMemory}

-- what stands under a conversation's number: nothing, a place for the connection by which it is asked now, or a
-- connection
pub data Standing : Type 0 where
  Free : Standing
  Asked : Standing
  Held : Standing

abbrev pub is_held : Standing → Bool
is_held Free = false
is_held Asked = false
is_held Held = true

-- a connection is kept only in a place that was set aside
abbrev pub settled : Standing → Standing
settled Free = Free
settled Asked = Held
settled Held = Held

-- what is kept in a map
abbrev pub standing_of : {L : Type 0} → Option (Option L) → Standing
standing_of None = Free
standing_of (Some None) = Asked
standing_of (Some (Some line)) = Held

abbrev pub standing_in : {L : Type 0} → BTreeMap ℕ (Option L) → ℕ → Standing
standing_in places conv = standing_of (get nat_cmp places conv)

-- Under one number stands then what comes of what stood there, where that is told; under all others what stood there
abbrev pub Moves : (Standing → Standing) → ℕ → Option (ℕ → Standing) → Option (ℕ → Standing) → Type 0
Moves step conv None new = ⊤
Moves step conv (Some old) None = ⊥
Moves step conv (Some old) (Some new) =
    (new conv ≡ step (old conv)) × ((other : ℕ) → other ≢ conv → new other ≡ old other)

-- What stands under the number of an exchange after it. Where memory ran out nothing has changed.
abbrev pub kept_after : Shape → Dial → Standing → Standing
kept_after Tickets dial before = before
kept_after Challenge Heard before = Held
kept_after Challenge Failed before = Free
kept_after Challenge NoMemory before = before
kept_after Vouch Heard before = Free
kept_after Vouch Failed before = Free
kept_after Vouch NoMemory before = before

-- what an attempt at an exchange comes to
abbrev pub dial_of : {E : Type 0} → Result (Option ℕ) E → Dial
dial_of (Ok (Some count)) = Heard
dial_of (Ok None) = Failed
dial_of (Err fault) = NoMemory
