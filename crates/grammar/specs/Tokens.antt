-- The tokens of a text, and where they stand in it.
use Rattle.std.specs.Prelude.{◌≡◌, ℕ, ◌+◌, ◌-◌, ◌^◌, ◌<◌, ◌≤◌, ◌⊎◌, List, [], ◌∷◌, length, codes, ◌≢◌, slice_index}
use Rattle.std.specs.List.{between}
use Rattle.legend.specs.Names.{Letter, LetterOrDigit}

-- a token: a name is told by its bytes, agents by the number of their coalition
pub data Tok : Type 0 where
  t_true : Tok
  t_name : List ℕ → Tok
  t_agents : ℕ → Tok
  t_not : Tok
  t_and : Tok
  t_or : Tok
  t_open : Tok
  t_close : Tok
  t_less : Tok
  t_greater : Tok
  t_next : Tok
  t_always : Tok
  t_until : Tok
  t_end : Tok
  -- stands for a state that is too deep; no text has it
  t_gap : Tok

-- a space or the end of a line
abbrev pub Blank : ℕ → Type 0
Blank b = (b ≡ 32) ⊎ (b ≡ 10)

abbrev pub Digit : ℕ → Type 0
Digit b = (48 ≤ b) × (b ≤ 57)

-- the bytes of text from p to q are of a kind, and the byte at q, if there is one, is not
pub record Run (P : ℕ → Type 0) (text : List ℕ) (p q : ℕ) : Type 0 where
  pub ordered : p ≤ q
  pub within : q ≤ length text
  pub all : (k : ℕ) → p ≤ k → k < q → P (slice_index text k)
  pub longest : q < length text → P (slice_index text q) → ⊥

-- the byte of a token that is a single sign
abbrev pub Sign : ℕ → Tok → Type 0
Sign b t_true = ⊥
Sign b (t_name v) = ⊥
Sign b (t_agents A) = ⊥
Sign b t_not = b ≡ 33
Sign b t_and = b ≡ 38
Sign b t_or = b ≡ 124
Sign b t_open = b ≡ 40
Sign b t_close = b ≡ 41
Sign b t_less = b ≡ 60
Sign b t_greater = b ≡ 62
Sign b t_next = b ≡ 88
Sign b t_always = b ≡ 71
Sign b t_until = b ≡ 85
Sign b t_end = ⊥
Sign b t_gap = ⊥

-- the token that a word is
abbrev pub Word : List ℕ → Tok → Type 0
Word w t_true = w ≡ codes "true"
Word w (t_name v) = (v ≡ w) × (w ≢ codes "true")
Word w (t_agents A) = ⊥
Word w t_not = ⊥
Word w t_and = ⊥
Word w t_or = ⊥
Word w t_open = ⊥
Word w t_close = ⊥
Word w t_less = ⊥
Word w t_greater = ⊥
Word w t_next = ⊥
Word w t_always = ⊥
Word w t_until = ⊥
Word w t_end = ⊥
Word w t_gap = ⊥

-- digits from one on up to 5, each above the one before
abbrev pub Rising : ℕ → List ℕ → Type 0
Rising low [] = Unit {0}
Rising low (d ∷ ds) = (low ≤ d) × (d ≤ 53) × Rising (d + 1) ds

-- the coalition of the agents that some digits name
abbrev pub number : List ℕ → ℕ
number [] = 0
number (d ∷ ds) = 2 ^ (d - 48) + number ds

-- the bytes of text from p to q are the token t
pub data Spells (text : List ℕ) (p q : ℕ) (t : Tok) : Type 0 where
  end : p ≡ length text → q ≡ p → t ≡ t_end → Spells text p q t
  word : p < length text → Letter (slice_index text p) → Run LetterOrDigit text p q → Word (between p q text) t → Spells text p q t
  agents : p < length text → Digit (slice_index text p) → Run Digit text p q → Rising 48 (between p q text) → t ≡ t_agents (number (between p q text)) → Spells text p q t
  sign : p < length text → Sign (slice_index text p) t → q ≡ p + 1 → Spells text p q t

-- after blanks from a place on, the token t fills the bytes p to q
pub record TokAt (text : List ℕ) (from p q : ℕ) (t : Tok) : Type 0 where
  pub blanks : Run Blank text from p
  pub spells : Spells text p q t

-- the byte at p, the first after blanks, begins no token: neither a word nor rising digits nor a sign
pub record Strange (text : List ℕ) (from p : ℕ) : Type 0 where
  pub blanks : Run Blank text from p
  pub some : p < length text
  pub no_word : Letter (slice_index text p) → ⊥
  pub no_agents : (q : ℕ) → Digit (slice_index text p) → Run Digit text p q → Rising 48 (between p q text) → ⊥
  pub no_sign : (t : Tok) → Sign (slice_index text p) t → ⊥

-- the tokens of text from a place to another are these
abbrev pub Lexes : List ℕ → ℕ → List Tok → ℕ → Type 0
Lexes text from [] to = from ≡ to
Lexes text from (t ∷ ts) to = (p : ℕ) × (q : ℕ) × TokAt text from p q t × Lexes text q ts to
