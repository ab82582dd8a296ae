-- What stands at the end of what a conversation did.
use Rattle.std.proofs.Common.{◌≡◌, refl, sym, ap, [], ◌∷◌, ◌++◌, List, Some, None}
use Rattle.symbolic_runs.specs.declared.kind.MacKind.{MacKind}
use Rattle.symbolic_runs.specs.Gifts.{bytes, opened, or_nothing, part, shown}
use Rattle.symbolic_runs.specs.Moves as table
use Rattle.symbolic_runs.specs.Moves.{client, server, mail_server, takes, hears, gives, asks, accepts, fails}
use Rattle.clean_runs.specs.Runs.{accepted_field}
use Rattle.trace_runs.specs.declared.moves.Move.{Move}
use Rattle.trace_runs.specs.Ends.{answer_before, heard_first, some_moves, taken_first}
use Rattle.trace_runs.specs.Views.{move_of, newest_first}
use Rattle.trace_runs.proofs.ConversationLaws.{newest_of}

pub last_parts : (all front : List Move) (last : Move) → all ≡ front ++ last ∷ [] → Some (move_of last ∷ newest_first front) ≡ some_moves (newest_first all)
last_parts all front last e = ap some_moves (sym (newest_of all front last e))

pub none_last : (all : List Move) → all ≡ [] → None ≡ some_moves (newest_first all)
none_last all e = rw e refl

pub client_field : (before : List table.Move) → accepted_field client before ≡ bytes (part (opened (or_nothing (answer_before before))) 3)
client_field [] = refl
client_field ((hears t) ∷ before) = refl
client_field ((gives t) ∷ before) = refl
client_field ((asks t) ∷ before) = refl
client_field ((accepts t) ∷ before) = refl
client_field (fails ∷ before) = refl
client_field (takes m ∷ []) = refl
client_field (takes m ∷ (takes t) ∷ before) = refl
client_field (takes m ∷ (hears t) ∷ before) = refl
client_field (takes m ∷ (asks t) ∷ before) = refl
client_field (takes m ∷ (accepts t) ∷ before) = refl
client_field (takes m ∷ fails ∷ before) = refl
client_field (takes m ∷ gives g ∷ []) = refl
client_field (takes m ∷ gives g ∷ (takes t) ∷ before) = refl
client_field (takes m ∷ gives g ∷ (hears t) ∷ before) = refl
client_field (takes m ∷ gives g ∷ (gives t) ∷ before) = refl
client_field (takes m ∷ gives g ∷ (asks t) ∷ before) = refl
client_field (takes m ∷ gives g ∷ (accepts t) ∷ before) = refl
client_field (takes m ∷ gives g ∷ fails ∷ before) = refl

pub server_field : (before : List table.Move) → accepted_field server before ≡ bytes (part (shown (or_nothing (taken_first before))) 3)
server_field [] = refl
server_field (takes m ∷ before) = refl
server_field (move ∷ before) = refl

pub mail_field : (kind : MacKind) (before : List table.Move) → accepted_field (mail_server kind) before ≡ bytes (part (opened (or_nothing (heard_first before))) 3)
mail_field kind [] = refl
mail_field kind (hears a ∷ before) = refl
mail_field kind (move ∷ before) = refl
