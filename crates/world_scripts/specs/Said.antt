-- What a line that lends its parts from a text says.
use Rattle.std.specs.Prelude.{Option, Some, None, Result, Ok, Err}
use Rattle.world_scripts.specs.Lines.{ScriptLine}
use Rattle.world_scripts.specs.Lines as l
use Rattle.world_scripts.specs.declared.line.Line.{Line}
use Rattle.world_scripts.specs.declared.line.Line.TheVariants.{Dom, AsKey, AsSpeak, Reload, Node, Restart, Ctl, Open, Start, Read, Write, Answer, NoAnswer, AsGive, Close}
use Rattle.world_scripts.specs.declared.line.BadForm.{BadForm}

abbrev pub said_line : Line → ScriptLine
said_line (Dom dom) = l.Dom dom.now
said_line (AsKey tuple) = l.AsKey tuple.now
said_line (AsSpeak tuple) = l.AsSpeak tuple.now
said_line Reload = l.Reload
said_line (Node node) = l.Node node.now
said_line (Restart node) = l.Restart node.now
said_line (Ctl node line) = l.Ctl node.now line.now
said_line (Open node conv) = l.Open node.now conv.now
said_line (Start conv random tuple) = l.Start conv.now random tuple.now
said_line (Read conv) = l.Read conv.now
said_line (Write conv pieces) = l.Write conv.now pieces
said_line (Answer conv pieces) = l.Answer conv.now pieces
said_line (NoAnswer conv) = l.NoAnswer conv.now
said_line (AsGive session pieces first second third) = l.AsGive session.now pieces first second third
said_line (Close conv) = l.Close conv.now

-- what was read, if it is a line
abbrev pub read_as : Result Line BadForm → Option ScriptLine
read_as (Ok line) = Some (said_line line)
read_as (Err BadForm) = None
