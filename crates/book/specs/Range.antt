-- Which numbers are in range where in a book. Assumes nothing.
use Rattle.std.specs.Prelude.{Option, Some, None, Bool, true, false, cond, not, ◌&&◌, ◌||◌, List, [], ◌∷◌, length, get_or, ℕ, ◌*◌, ◌%◌, ltb, leb, eqb}
use Rattle.number.specs.declared.cause.Cause.{Cause}
use Rattle.book.specs.Action.{action_of}
use Rattle.book.specs.declared.{Action.Action, Part.Part, Sizes.Sizes}

-- the cause of a refusal where a test fails, none where it holds
abbrev pub fault_unless : Bool → Cause → Option Cause
fault_unless true cause = None
fault_unless false cause = Some cause

-- 'T terminals, 1 to 32; N nonterminals, 0 to 32; S states, 1 to 128; P productions, 0 to 128' after the form, by request 2 1 or 2
abbrev pub head_lowest : List ℕ
head_lowest = 1 ∷ 1 ∷ 0 ∷ 1 ∷ 0 ∷ []

abbrev pub head_highest : List ℕ
head_highest = 2 ∷ 32 ∷ 32 ∷ 128 ∷ 128 ∷ []

-- 'Terminal 0 is the end mark: no state shifts it, and accept stands only under it': the actions allowed under the terminal t
unfoldable pub allowed : Sizes → ℕ → Action → Bool
allowed d t Action.Error = true
allowed d t Action.Accept = eqb t 0
allowed d t (Action.Shift s) = not (eqb t 0) && ltb s d.s
allowed d t (Action.Reduce p) = ltb p d.p

-- how many numbers a part has: the head its five; 'for each production: its left side and its length'; 'for each state, for each terminal, an
-- action'; 'for each state, for each nonterminal, a goto'; by request 2 'A book of form 2 has, after the productions, one rank per terminal'
abbrev pub part_length : Sizes → Part → ℕ
part_length d Part.Head = 5
part_length d Part.Productions = 2 * d.p
part_length d Part.Ranks = cond (eqb d.form 2) d.t 0
part_length d Part.Actions = d.s * d.t
part_length d Part.Gotos = d.s * d.n

-- v as number i of its part: 'its left side (a nonterminal, 0 to N - 1) and its length, 0 to 32'; of the ranks, 'a rearrangement of 0 to T - 1',
-- one that is not there already, as is told; an action; 'a goto: 0 none, else state + 1'
unfoldable pub fits : Sizes → Part → ℕ → Bool → ℕ → Bool
fits d Part.Head i there v = leb (get_or head_lowest i 0) v && leb v (get_or head_highest i 0)
fits d Part.Productions i there v = cond (eqb (i % 2) 0) (ltb v d.n) (leb v 32)
fits d Part.Ranks i there v = ltb v d.t && not there
fits d Part.Actions i there v = allowed d (i % d.t) (action_of v)
fits d Part.Gotos i there v = leb v d.s

-- what refuses it otherwise: by request 2 'Number 3 now means a form that is neither'; '4 T, N, S or P outside its range'; by request 1
-- 'From now on 5 means a left side or length only', '14 for an action, 15 for a goto, each where 5 stood': 14 for 'a shift under terminal 0, or accept
-- under another terminal' too; by request 2 '16, a rank that is T or more or already used, in reading order'
unfoldable pub fault_cause : Part → ℕ → Cause
fault_cause Part.Head i = cond (eqb i 0) Cause.Form Cause.Count
fault_cause Part.Productions i = Cause.Production
fault_cause Part.Ranks i = Cause.Rank
fault_cause Part.Actions i = Cause.Action
fault_cause Part.Gotos i = Cause.Goto

-- whether a number is among others
abbrev pub among : ℕ → List ℕ → Bool
among v [] = false
among v (w ∷ ws) = eqb v w || among v ws

-- why v is refused after the numbers of its part already seen, if it is
unfoldable pub fault : Sizes → Part → List ℕ → ℕ → Option Cause
fault d part seen v = fault_unless (fits d part (length seen) (among v seen) v) (fault_cause part (length seen))
