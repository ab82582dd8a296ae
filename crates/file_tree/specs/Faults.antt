-- What a refusal is told as, and how a call's answer stands to the test that refuses it. The texts are those of
-- section 5 of the Plan 9 manual where it has one, else this project's own.
use Rattle.std.specs.Prelude.{◌≡◌, ℕ, List, Option, Some, None, Result, Ok, Err, codes}
use Rattle.file_tree.specs.declared.fault.FidFault.{FidFault}
use Rattle.file_tree.specs.declared.fault.FidFault.TheVariants.{UnknownFid, InUse, TooMany, AlreadyOpen, NotDirectory, NotFound, BadMode, Denied, BadOffset, NoMemory}

-- the text of the reply that tells it
abbrev pub fault_text : FidFault → List ℕ
fault_text UnknownFid = codes "unknown fid"
fault_text InUse = codes "fid in use"
fault_text TooMany = codes "too many fids"
fault_text AlreadyOpen = codes "already open"
fault_text NotDirectory = codes "not a directory"
fault_text NotFound = codes "file not found"
fault_text BadMode = codes "bad open mode"
fault_text Denied = codes "permission denied"
fault_text BadOffset = codes "bad directory offset"
fault_text NoMemory = codes "out of memory"

-- what a call answers that takes no memory: what refuses it, or else its value
abbrev pub answered : {X : Type 0} → Option FidFault → X → Result X FidFault
answered None x = Ok x
answered (Some fault) x = Err fault

-- what a call answers that takes memory: the same, but that it may answer want of memory whatever refuses it
abbrev pub Refuses : Option FidFault → FidFault → Type 0
Refuses refusal NoMemory = Unit {0}
Refuses refusal fault = refusal ≡ Some fault

abbrev pub Answers : {X : Type 0} → Option FidFault → X → Result X FidFault → Type 0
Answers refusal x (Ok value) = (refusal ≡ None) × (value ≡ x)
Answers refusal x (Err fault) = Refuses refusal fault
