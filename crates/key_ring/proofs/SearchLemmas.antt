-- What a search of the ring gives serves, and has a greater number than the one behind which it was looked for.
use Rattle.std.proofs.Common.{◌≡◌, ℕ, ◌<◌, List, Some, None, true, sym}
use Rattle.std.specs.Prelude.{IfSome, Option}
use Rattle.attr_tuples.specs.declared.attr.Attr.{Attr}
use Rattle.key_lists.specs.Lists.{KeyEntry, KeyList, first_serving, next_serving, serves}
use Rattle.key_lists.specs.Edits.{IsOrdered}
use Rattle.key_lists.proofs.FindLaws.{first_serves, next_greater, next_serves}

pub found_serves : (template : List Attr) (role : List ℕ) (list : KeyList) (found : Option KeyEntry) → found ≡ first_serving template role list → IfSome found (λ key. serves template role key ≡ true)
found_serves template role list None e = tt
found_serves template role list (Some key) e = first_serves template role list key (sym e)

pub next_found_serves : (template : List Attr) (role : List ℕ) (serial : ℕ) (list : KeyList) (found : Option KeyEntry) → found ≡ next_serving template role serial list → IfSome found (λ key. serves template role key ≡ true)
next_found_serves template role serial list None e = tt
next_found_serves template role serial list (Some key) e = next_serves template role serial list key (sym e)

pub next_found_greater : (template : List Attr) (role : List ℕ) (serial : ℕ) (list : KeyList) (found : Option KeyEntry) → IsOrdered list → found ≡ next_serving template role serial list → IfSome found (λ key. serial < key.serial)
next_found_greater template role serial list None o e = tt
next_found_greater template role serial list (Some key) o e = next_greater template role serial list key o (sym e)
