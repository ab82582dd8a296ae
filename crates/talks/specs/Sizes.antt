-- What texts leave of a number of bytes, the budget, and how attributes are gone over. It serves proofs alone.
use Rattle.std.specs.Prelude.{ℕ, ◌-◌, List, ◌∷◌, nat_le, length, Option, Some, None, if◌then◌else◌}
use Rattle.std.specs.List.{flat_map}
use Rattle.attr_tuples.specs.declared.attr.Attr.{Attr}
use Rattle.attr_tuples.specs.Printing.{attr_text, hidden}
use Rattle.talks.specs.declared.size.Secrets.{Secrets}
use Rattle.talks.specs.declared.size.Secrets.TheVariants.{Printed, Hidden}

-- what is left of a budget when so much of it is spent; none where it doesn't reach, or didn't before
abbrev pub left : Option ℕ → ℕ → Option ℕ
left None size = None
left (Some most) size = if nat_le size most then Some (most - size) else None

-- what a text leaves of a budget
unfoldable pub behind : Option ℕ → List ℕ → Option ℕ
behind budget text = left budget (length text)

-- an attribute as it is seen, where secrets are printed or hidden
abbrev pub seen : Secrets → Attr → Attr
seen Printed a = a
seen Hidden a = hidden a

-- attributes as they are seen and printed, each behind a blank
abbrev pub others_text : Secrets → List Attr → List ℕ
others_text secrets attrs = flat_map (λ a. 32 ∷ attr_text (seen secrets a)) attrs
