-- By which deeds conversations end. After section 5 of the Plan 9 manual (clunk, version): a conversation ends with its
-- fid, and a fid with its connection.
use Rattle.std.specs.Prelude.{Option, Some, None}
use Rattle.agent_history.specs.Deeds.{Deed, OfConnection, OfFids, Clunked, Hung, Versioned}
use Rattle.agent_talks.specs.declared.speaker.Leaving.{Leaving}
use Rattle.agent_talks.specs.declared.speaker.Leaving.TheVariants as l

-- whose conversations end by a deed
abbrev pub leaving_of : Deed → Option Leaving
leaving_of (OfFids conn (Clunked fid)) = Some (l.Fid conn fid)
leaving_of (OfFids conn (Versioned msize)) = Some (l.Connection conn)
leaving_of (OfConnection conn Hung) = Some (l.Connection conn)
leaving_of deed = None
