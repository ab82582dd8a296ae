-- What a search finds, in the words of the definitions.
use Rattle.talks.specs.Calls.{Found, Chosen, AsksConsent, AsksKey, Denied, NoneServes}
use Rattle.talks.specs.declared.found.Found.{Found as Held}
use Rattle.talks.specs.declared.found.Found.TheVariants as held

-- what the code calls it
abbrev pub meant : Held → Found
meant (held.Chosen key) = Chosen key.now
meant (held.AsksConsent key) = AsksConsent key.now
meant held.AsksKey = AsksKey
meant held.Denied = Denied
meant held.NoneServes = NoneServes
