-- What reads are told that wait, of a line or of an answer.
use Rattle.std.specs.Prelude.{◌≡◌, ℕ, List, Bool, true, false, Option, Some, None}
use Rattle.nine.specs.declared.message.RBody.{RBody}
use Rattle.nine.specs.declared.message.RBody.TheVariants as r
use Rattle.nine.specs.Messages.{r_frame}
use Rattle.file_tree.specs.declared.tree.Node.{Node}
use Rattle.side_files.specs.Lines.{Found, Nothing, TooLong, First}
use Rattle.agent_history.specs.Deeds.{Deed}
use Rattle.agent_history.specs.Replies.{too_small}
use Rattle.agent_history.specs.Conversations.{delivered}
use Rattle.agent_history.specs.SideFiles.{all_served, line_read}
use Rattle.mailboxes.specs.declared.reply.Reply.{Reply}
use Rattle.mailboxes.specs.Kept.{reply_bytes}
use Rattle.mailboxes.specs.Deliveries.{under}
use Rattle.agent_requests.specs.declared.shared.Shared.{Shared}
use Rattle.agent_requests.specs.Sharing.{Shares}

-- the reply tells this under a tag
abbrev pub Tells : ℕ → RBody → Option Reply → Type 0
Tells tag body None = ⊥
Tells tag body (Some reply) = reply_bytes reply ≡ r_frame (under tag body)

-- what a read is told by what it finds in a file of lines: nothing; that it holds too little, and the line stays; or
-- the line, which is read
abbrev pub LineTold : Node → ℕ → Found → List Deed → Shared → Option Reply → Type 0
LineTold node tag Nothing done s result = (result ≡ None) × Shares done s
LineTold node tag TooLong done s result = Tells tag too_small result × Shares done s
LineTold node tag (First line) done s result = Tells tag (r.Read line) result × Shares (line_read node done) s

-- a read was told something; or none was, and nothing is different
abbrev pub Serves : Bool → List Deed → List Deed → Shared → Type 0
Serves true done after s = Shares after s
Serves false done after s = (after ≡ done) × Shares done s

-- behind what a conversation met, where one is meant: the reads are told the lines that came, and its answer is
-- delivered
abbrev pub followed : Option ℕ → List Deed → List Deed
followed None done = done
followed (Some conv) done = delivered conv (all_served done)
