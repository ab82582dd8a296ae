-- The questions to users that come with what a conversation meets.
use Rattle.std.specs.Prelude.{◌≡◌, ℕ, List, Option, Some, None}
use Rattle.attr_tuples.specs.Printing.{public_text}
use Rattle.key_lists.specs.Lists.{KeyEntry}
use Rattle.roles.specs.Templates.{shown_text}
use Rattle.side_files.specs.declared.line.PromptKind.{PromptKind}
use Rattle.side_files.specs.declared.line.PromptKind.TheVariants as k
use Rattle.side_files.specs.Questions.{Questions, asked_by, next_line}
use Rattle.talks.specs.Calls.{AsksConsent}
use Rattle.talks.specs.Standings.{Standing, finds, template_of}
use Rattle.conversations.specs.Asking.{asked_kind}
use Rattle.agent_history.specs.Deeds.{Deed, keys_of}
use Rattle.agent_history.specs.Conversations.{asking, standing_of}
use Rattle.agent_history.specs.SideFiles.{prompts_of}

-- a conversation asks about this
abbrev pub asks_about : ℕ → List ℕ → Questions → Questions
asks_about conv about q = asked_by conv (next_line q about) q

-- it asks whether this key may be used: the key that its search comes to among the keys of a moment
pub record AskedAbout (before after : List Deed) (conv : ℕ) (now : Standing) (key : KeyEntry) : Type 0 where
  pub found : finds now (asking before) (keys_of before) ≡ AsksConsent key
  pub confirm : prompts_of after k.Confirm ≡ asks_about conv (public_text key.tuple) (prompts_of before k.Confirm)
  pub needkey : prompts_of after k.Needkey ≡ prompts_of before k.Needkey

-- it asks for a key
pub record AskedFor (before after : List Deed) (conv : ℕ) (now : Standing) : Type 0 where
  pub confirm : prompts_of after k.Confirm ≡ prompts_of before k.Confirm
  pub needkey : prompts_of after k.Needkey
      ≡ asks_about conv (shown_text (template_of now.begun)) (prompts_of before k.Needkey)

-- nothing is asked
pub record NoneAsked (before after : List Deed) : Type 0 where
  pub confirm : prompts_of after k.Confirm ≡ prompts_of before k.Confirm
  pub needkey : prompts_of after k.Needkey ≡ prompts_of before k.Needkey

-- by what a conversation waits for its user
abbrev pub AskedIn : Option PromptKind → List Deed → List Deed → ℕ → Standing → Type 0
AskedIn None before after conv now = NoneAsked before after
AskedIn (Some k.Confirm) before after conv now = (key : KeyEntry) × AskedAbout before after conv now key
AskedIn (Some k.Needkey) before after conv now = AskedFor before after conv now

abbrev pub Asked : List Deed → List Deed → ℕ → Type 0
Asked before after conv = AskedIn (asked_kind (standing_of after conv).phase) before after conv (standing_of after conv)
