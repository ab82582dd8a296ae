-- Of the code alone: whose reads that wait may be settled, since the last sweep.
use Rattle.std.specs.Prelude.{◌≡◌, ℕ, List, Bool, true, false, ◌==◌, Option, Some, None, is_some}
use Rattle.std.specs.List.{list_any}
use Rattle.std.specs.Ordering.{nat_cmp}
use Rattle.std.specs.BTreeMap.{BTreeMap, get}
use Rattle.mailboxes.specs.declared.settled_for.SettledFor.{SettledFor}
use Rattle.mailboxes.specs.declared.settled_for.SettledFor.TheVariants as s
use Rattle.mailboxes.specs.Mails.{Mail, Pending}

-- a connection is one of them
abbrev pub covers : SettledFor → ℕ → Bool
covers s.Nobody conn = false
covers (s.One other) conn = other == conn
covers s.Several conn = true

-- some read is settled
abbrev pub has_settled : List Pending → Bool
has_settled waits = list_any (λ wait. is_some wait.reply) waits

abbrev pub has_settled_in : Option Mail → Bool
has_settled_in None = false
has_settled_in (Some mail) = has_settled mail.waits

-- no read of any other connection is
abbrev pub Rests : SettledFor → BTreeMap ℕ Mail → Type 0
Rests unswept boxes = (conn : ℕ) → covers unswept conn ≡ false → has_settled_in (get nat_cmp boxes conn) ≡ false
