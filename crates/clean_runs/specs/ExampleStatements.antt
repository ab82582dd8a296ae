-- What is said of the login: its record is clean where its words, keys and passwords are bytes and differ; and of any
-- record: with two equal words it isn't clean.
use Rattle.std.specs.Prelude.{◌≡◌, ℕ, ◌<◌, List, [], ◌∷◌, ◌++◌, All, Bool, true, false, length, Option}
use Rattle.wire_histories.specs.declared.step.Step.TheVariants.{Start}
use Rattle.wire_histories.specs.declared.step.Protocol.{Protocol}
use Rattle.wire_histories.specs.declared.step.Role.{Role as Part}
use Rattle.symbolic_runs.specs.Moves.{Role, client, server, mail_client, mail_server}
use Rattle.symbolic_runs.specs.Spellings.{Atoms}
use Rattle.wire_histories.specs.Histories.{History}
use Rattle.wire_histories.specs.Legal.{IsLegal, Setting, Spoken}
use Rattle.clean_runs.specs.Labels.{Labelling}
use Rattle.clean_runs.specs.Clean.{IsClean}
use Rattle.clean_runs.specs.Runs.{role_by}
use Rattle.clean_runs.specs.MailLogin as mail
use Rattle.clean_runs.specs.Removal.{removal, removal_setting}
use Rattle.clean_runs.specs.Login.{HasKey, Secrets, conv_c, conv_s, key_bytes, labelling, login, login_setting, reading, spoken, word_bytes}

abbrev pub AreBytes : List ℕ → Type 0
AreBytes text = All (λ n. n < 256) text

-- a text is none of these, and no two of these are the same
abbrev pub IsNone : List ℕ → List (List ℕ) → Type 0
IsNone text [] = Unit {0}
IsNone text (other ∷ more) = (text ≡ other → ⊥) × IsNone text more

abbrev pub AreDifferent : List (List ℕ) → Type 0
AreDifferent [] = Unit {0}
AreDifferent (text ∷ more) = IsNone text more × AreDifferent more

pub record AreFresh (k : Secrets) : Type 0 where
  pub client : AreBytes (word_bytes k.client)
  pub server : AreBytes (word_bytes k.server)
  pub first : AreBytes (word_bytes k.first)
  pub second : AreBytes (word_bytes k.second)
  pub third : AreBytes (word_bytes k.third)
  pub ann_key : AreBytes (word_bytes k.ann_key)
  pub srv_key : AreBytes (word_bytes k.srv_key)
  pub ann_password : AreBytes k.ann_password
  pub srv_password : AreBytes k.srv_password
  -- the words of conversations differ; so do all keys, those that are made up too; and so do the passwords
  pub words : AreDifferent (word_bytes k.client ∷ word_bytes k.server ∷ [])
  pub keys : AreDifferent (key_bytes k.first ∷ key_bytes k.second ∷ key_bytes k.third ∷ key_bytes k.ann_key
      ∷ key_bytes k.srv_key ∷ [])
  pub passwords : AreDifferent (k.ann_password ∷ k.srv_password ∷ [])

-- whatever the conversations were started with, where the key that each keeps is that of its user
abbrev pub LoginIsClean : Type 0
LoginIsClean = (k : Secrets) (spoken : List ℕ → Option Spoken) → AreFresh k → HasKey k.ann_key (spoken conv_c)
    → HasKey k.srv_key (spoken conv_s) → IsClean (login k) (login_setting k spoken) (reading k) labelling

-- a record is one that a network can have, and under this labelling and reading it is clean
pub record IsLegalAndClean (history : History) (z : Setting) (atoms : Atoms) (l : Labelling) : Type 0 where
  pub legal : IsLegal history z
  pub clean : IsClean history z atoms l

-- so is this one, with the starts and the keys that it came about by
abbrev pub LoginIsLegal : Type 0
LoginIsLegal = (k : Secrets) → AreFresh k
    → IsLegalAndClean (login k) (login_setting k (spoken k)) (reading k) labelling

-- so is this one with a removal behind it, and a restart
abbrev pub RemovalIsLegal : Type 0
RemovalIsLegal = (k : Secrets) → AreFresh k
    → IsLegalAndClean (removal k) (removal_setting k) (reading k) labelling

-- the words, keys and passwords of a login by APOP are bytes; the keys differ, those that are made up too, and so do
-- the passwords
pub record AreFreshInMail (k : mail.Secrets) : Type 0 where
  pub server : AreBytes (word_bytes k.server)
  pub client : AreBytes (word_bytes k.client)
  pub first : AreBytes (word_bytes k.first)
  pub second : AreBytes (word_bytes k.second)
  pub third : AreBytes (word_bytes k.third)
  pub fourth : AreBytes (word_bytes k.fourth)
  pub fifth : AreBytes (word_bytes k.fifth)
  pub sixth : AreBytes (word_bytes k.sixth)
  pub ann_key : AreBytes (word_bytes k.ann_key)
  pub srv_key : AreBytes (word_bytes k.srv_key)
  pub ann_password : AreBytes k.ann_password
  pub srv_password : AreBytes k.srv_password
  pub keys : AreDifferent (key_bytes k.first ∷ key_bytes k.second ∷ key_bytes k.third ∷ key_bytes k.fourth
      ∷ key_bytes k.fifth ∷ key_bytes k.sixth ∷ key_bytes k.ann_key ∷ key_bytes k.srv_key ∷ [])
  pub passwords : AreDifferent (k.ann_password ∷ k.srv_password ∷ [])

-- so is the record of such a login
abbrev pub MailLoginIsLegal : Type 0
MailLoginIsLegal = (k : mail.Secrets) → AreFreshInMail k
    → IsLegalAndClean (mail.login k) (mail.setting k) (mail.reading k) mail.labelling

-- a role uses the word of its start
abbrev pub uses_word : Role → Bool
uses_word client = true
uses_word server = true
uses_word (mail_client kind) = false
uses_word (mail_server kind) = true

-- a step of a history starts a conversation whose role uses this word
pub record StartsBy (history : History) (random : List ℕ) (past : History) : Type 0 where
  pub conv : List ℕ
  pub protocol : Protocol
  pub part : Part
  pub uses : uses_word (role_by protocol part) ≡ true
  pub later : History
  pub place : history ≡ later ++ Start conv protocol part random ∷ past

-- where two do by one word, they are one
abbrev pub WordsAreUsedOnce : Type 0
WordsAreUsedOnce = (history : History) (z : Setting) (atoms : Atoms) (l : Labelling) → IsClean history z atoms l
    → (random : List ℕ) (one other : History) → StartsBy history random one → StartsBy history random other
    → length one ≡ length other
