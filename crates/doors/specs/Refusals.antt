-- The texts of refusals: those of section 5 of the Plan 9 manual where it has one, else this project's own.
use Rattle.std.specs.Prelude.{ℕ, List, Option, option_map, codes}
use Rattle.doors.specs.declared.refusal.Refusal.{Refusal}
use Rattle.doors.specs.declared.refusal.Refusal.TheVariants as f

abbrev pub refusal_text : Refusal → List ℕ
refusal_text f.OverMsize = codes "message over msize"
refusal_text f.BadMessage = codes "bad message"
refusal_text f.NoVersion = codes "no version"
refusal_text f.MsizeTooSmall = codes "msize too small"
refusal_text f.BadAfid = codes "bad afid"
refusal_text f.InUse = codes "fid in use"
refusal_text f.TooMany = codes "too many fids"
refusal_text f.Unavailable = codes "authentication unavailable"
refusal_text f.AuthenticationRequired = codes "authentication required"
refusal_text f.WrongAttach = codes "wrong attach"
refusal_text f.NotAuthenticated = codes "not authenticated"
refusal_text f.UnknownFid = codes "unknown fid"
refusal_text f.AlreadyOpen = codes "already open"
refusal_text f.NotDirectory = codes "not a directory"
refusal_text f.NotFound = codes "file not found"
refusal_text f.BadMode = codes "bad open mode"
refusal_text f.Denied = codes "permission denied"
refusal_text f.NotOpen = codes "not open"
refusal_text f.NotOpenForWriting = codes "not open for writing"
refusal_text f.BadOffset = codes "bad directory offset"
refusal_text f.RpcTooLong = codes "rpc too long"

-- the text that is told, where a request is refused
abbrev pub told : Option Refusal → Option (List ℕ)
told why = option_map refusal_text why
