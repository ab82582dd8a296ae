-- What the fids of a connection name: files of the tree, or conversations by which users are authenticated (attach(5)).
use Rattle.std.specs.Prelude.{ℕ, List, [], ◌∷◌, length, filter, find, nat_le, Bool, true, false, not, ◌==◌, Option, Some, None, option_map, is_some, if◌then◌else◌}
use Rattle.std.specs.List.{filter_map}
use Rattle.doors.specs.declared.file.DoorFile.{DoorFile}
use Rattle.doors.specs.declared.fid.FileFid.{FileFid}
use Rattle.doors.specs.declared.fid.AuthFid.{AuthFid}
use Rattle.doors.specs.declared.fid.Names.{Names}
use Rattle.doors.specs.declared.fid.Names.TheVariants.{File, Conversation}
use Rattle.doors.specs.declared.fid.Held.{Held}

-- how many fids may be held
abbrev pub most_fids : ℕ
most_fids = 64

abbrev pub is_full : List Held → Bool
is_full all = nat_le most_fids (length all)

-- what a fid names, if it is held
abbrev pub named : ℕ → List Held → Option Names
named fid all = option_map (λ h. h.names) (find (λ h. h.fid == fid) all)

abbrev pub is_held : ℕ → List Held → Bool
is_held fid all = is_some (named fid all)

-- ---- conversations

abbrev pub conversation_in : Names → Option AuthFid
conversation_in (File f) = None
conversation_in (Conversation a) = Some a

abbrev pub conv_of : Held → Option ℕ
conv_of h = option_map (λ a. a.conv) (conversation_in h.names)

-- the conversations that are held, in the order in which they came
abbrev pub conversations : List Held → List ℕ
conversations all = filter_map conv_of all

-- ---- what becomes of them

abbrev pub holds : ℕ → Names → Held
holds fid names = record { fid = fid; names = names }

-- a fid that is held names something else, in its place
abbrev pub renamed : ℕ → Names → List Held → List Held
renamed fid names [] = []
renamed fid names (h ∷ more) = if h.fid == fid then holds fid names ∷ more else h ∷ renamed fid names more

-- all but one
abbrev pub without : ℕ → List Held → List Held
without fid all = filter (λ h. not (h.fid == fid)) all

-- a fid that names a file for a user, and isn't open
abbrev pub at_rest : List ℕ → DoorFile → Names
at_rest uname file = File (record { file = file; uname = uname; is_open = false; next = 0 })

abbrev pub opened : FileFid → Names
opened f = File (record { file = f.file; uname = f.uname; is_open = true; next = 0 })

abbrev pub read_to : ℕ → FileFid → Names
read_to next f = File (record { file = f.file; uname = f.uname; is_open = f.is_open; next = next })

-- a conversation that nobody has read, and one with bytes that a read had no room for
abbrev pub begun : ℕ → List ℕ → List ℕ → Names
begun conv uname aname = Conversation (record { conv = conv; uname = uname; aname = aname; kept = [] })

abbrev pub keeping : List ℕ → AuthFid → Names
keeping kept a = Conversation (record { conv = a.conv; uname = a.uname; aname = a.aname; kept = kept })
