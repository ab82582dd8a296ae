-- What holds of a role's needs whose calls want keys and the authentication server's answers, and nothing else. It is
-- said of what the role makes of its talks.
use Rattle.std.specs.Prelude.{◌≡◌, ℕ, true, false, List, ◌∷◌, Option}
use Rattle.roles.specs.declared.answer.Cause.TheVariants.{NoServer, NoRoom}
use Rattle.roles.specs.declared.answer.Gave.{Gave}
use Rattle.roles.specs.declared.answer.Gave.TheVariants as g
use Rattle.roles.specs.declared.key.SkKey.{SkKey}
use Rattle.roles.specs.declared.need.Need.{Need}
use Rattle.roles.specs.declared.need.Need.TheVariants.{Nothing}
use Rattle.roles.specs.Answers.{IsExchange, IsKey, IsOffers, IsPick, is_sought}
use Rattle.roles.specs.Starts.{Start}
use Rattle.roles.specs.Talks.{Call, found, heard, unheard, roomless, undone}

pub record SeeksKeys (needs : Start → List Call → Need) (answers : Start → List Call → Call → Gave) : Type 0 where
  -- it needs no offers, and no pick
  pub never_offers : (start : Start) (talk : List Call) → IsOffers (needs start talk) → ⊥
  pub never_picks : (start : Start) (talk : List Call) → IsPick (needs start talk) → ⊥
  -- what a call seeks that nothing was needed before is taken back with it
  pub undone_needs : (start : Start) (talk : List Call) (call : Call) → needs start talk ≡ Nothing
      → is_sought (needs start (call ∷ talk)) ≡ true → needs start (undone ∷ call ∷ talk) ≡ Nothing
  -- behind a key no other is sought
  pub found_needs : (start : Start) (talk : List Call) (key : SkKey) (password : Option (List ℕ))
      → IsKey (needs start talk) → is_sought (needs start (found key password ∷ talk)) ≡ false
  -- behind the authentication server's answer nothing is needed, and none at all is told
  pub heard_needs : (start : Start) (talk : List Call) (bytes : List ℕ) → IsExchange (needs start talk)
      → needs start (heard bytes ∷ talk) ≡ Nothing
  pub unheard_needs : (start : Start) (talk : List Call) → IsExchange (needs start talk)
      → needs start (unheard ∷ talk) ≡ Nothing
  pub roomless_needs : (start : Start) (talk : List Call) → IsExchange (needs start talk)
      → needs start (roomless ∷ talk) ≡ Nothing
  pub unheard_tells : (start : Start) (talk : List Call) → IsExchange (needs start talk)
      → answers start talk unheard ≡ g.Refused NoServer
  pub roomless_tells : (start : Start) (talk : List Call) → IsExchange (needs start talk)
      → answers start talk roomless ≡ g.Refused NoRoom
