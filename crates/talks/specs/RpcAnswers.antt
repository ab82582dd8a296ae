-- The texts of rpc's answers. Their words are after factotum(4) of the Plan 9 manual, each exact text is this
-- project's.
use Rattle.std.specs.Prelude.{ℕ, List, [], ◌++◌, codes}
use Rattle.std.specs.Fmt.{decimal}
use Rattle.attr_tuples.specs.Printing.{public_text}
use Rattle.sealing.specs.Info.{info_text}
use Rattle.roles.specs.Templates.{shown_text}
use Rattle.talks.specs.declared.answer.RpcAnswer.{RpcAnswer}
use Rattle.talks.specs.declared.answer.RpcAnswer.TheVariants as a

-- how it begins; of most answers it is the whole text
abbrev pub title_of : RpcAnswer → List ℕ
title_of a.Ok = codes "ok"
title_of (a.Got bytes) = codes "ok "
title_of a.DoneHaveai = codes "done haveai"
title_of a.Done = codes "done"
title_of a.SecretInTemplate = codes "error secret in template"
title_of a.UnknownProto = codes "error unknown proto"
title_of a.UnknownRole = codes "error unknown role"
title_of a.BadUser = codes "error bad user"
title_of a.BadTemplate = codes "error bad template"
title_of a.WrongKind = codes "error wrong kind"
title_of a.WrongChallenge = codes "error wrong challenge"
title_of a.WrongUser = codes "error wrong user"
title_of a.NotOffered = codes "error not offered"
title_of a.ServerSaidNo = codes "error server said no"
title_of a.NoServer = codes "error no server"
title_of (a.BadKey key) = codes "badkey "
title_of a.TooLong = codes "error message too long"
title_of (a.TooSmall size) = codes "toosmall "
title_of (a.NeedKey template) = codes "needkey "
title_of a.Denied = codes "error confirmation denied"
title_of a.NoRoom = codes "error out of memory"
title_of a.AwaitsRead = codes "phase awaits read"
title_of a.AwaitsWrite = codes "phase awaits write"
title_of a.Broken = codes "phase broken"
title_of a.NotStarted = codes "protocol not started"
title_of a.AlreadyStarted = codes "phase already started"
title_of (a.Info info) = codes "ok "
title_of a.NoInfo = codes "error no authinfo available"
title_of (a.Attributes attributes) = codes "ok "

-- what it shows behind that
abbrev pub detail_of : RpcAnswer → List ℕ
detail_of (a.Got bytes) = bytes
detail_of (a.BadKey key) = public_text key
detail_of (a.TooSmall size) = decimal size
detail_of (a.NeedKey template) = shown_text template
detail_of (a.Info info) = info_text info
detail_of (a.Attributes attributes) = public_text attributes
detail_of _ = []

-- the text of an answer
unfoldable pub answer_text : RpcAnswer → List ℕ
answer_text answer = title_of answer ++ detail_of answer
