-- Words for moves that take what is kept and make of it what follows. No public contract cites them.
use Rattle.roles.specs.declared.need.Need.{Need}
use Rattle.roles.specs.declared.need.Need.TheVariants.{Nothing, Key, Offers, Pick, Exchange}
use Rattle.conv_p9any.specs.declared.stage.Stage.{Stage}
use Rattle.conv_p9any.specs.declared.stage.Stage.TheVariants.{ServerOffers, ServerKey, ServerFirst, ServerSecond, ClientFirst, ClientPick, ClientSecond, ClientThird}

-- the stage behind a message that is got
abbrev pub advanced : Stage → Stage
advanced ServerOffers = ServerOffers
advanced ServerKey = ServerKey
advanced (ServerFirst list) = ServerSecond list
advanced (ServerSecond list) = ServerSecond list
advanced ClientFirst = ClientFirst
advanced (ClientPick list) = ClientPick list
advanced (ClientSecond list place) = ClientThird list place
advanced (ClientThird list place) = ClientThird list place

-- the need of a key, by the template by which offers were needed, and back
abbrev pub as_key : Need → Need
as_key Nothing = Nothing
as_key (Key template) = Key template
as_key (Offers template) = Key template
as_key (Pick templates) = Nothing
as_key (Exchange request shape) = Nothing

abbrev pub as_offers : Need → Need
as_offers Nothing = Nothing
as_offers (Key template) = Offers template
as_offers (Offers template) = Offers template
as_offers (Pick templates) = Nothing
as_offers (Exchange request shape) = Nothing
