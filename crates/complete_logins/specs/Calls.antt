-- When all that is asked of a conversation goes well. The words are this project's.
use Rattle.std.specs.Prelude.{List, [], ◌∷◌}
use Rattle.roles.specs.declared.answer.Gave.{Gave}
use Rattle.roles.specs.declared.answer.Gave.TheVariants as g
use Rattle.roles.specs.Talks.{Call}

-- a call is answered well: its move was made, or something is needed first, or the last move was made before
abbrev pub IsWell : Gave → Type 0
IsWell g.Ok = Unit {0}
IsWell g.Wait = Unit {0}
IsWell (g.Done haveai) = Unit {0}
IsWell given = ⊥

-- each call of a talk is answered well, as a role answers calls behind a talk
abbrev pub AllWell : (List Call → Call → Gave) → List Call → Type 0
AllWell answers [] = Unit {0}
AllWell answers (call ∷ before) = IsWell (answers before call) × AllWell answers before
