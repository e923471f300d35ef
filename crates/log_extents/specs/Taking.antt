-- Reading a chain, one extent after the other.
use Rattle.std.specs.Prelude.{◌≡◌, ◌≢◌, ℕ, zero, suc, ◌*◌, ◌<◌, ◌≤◌, ◌^◌, List, [], ◌∷◌, ◌++◌, length, map}
use Rattle.std.specs.List.{AllByRecursion}
use Rattle.log_extents.specs.declared.chain_reader.ChainKind.{ChainKind}
use Rattle.log_extents.specs.declared.chain_reader.ChainKind.TheVariants.{Log, Anchors}
use Rattle.log_extents.specs.declared.chain_reader.Taken.{Taken}
use Rattle.log_extents.specs.declared.chain_reader.Taken.TheVariants.{More, Whole, Bad}
use Rattle.log_extents.specs.Extents.{LinkedExtent, linked_bytes, IsLinked}
use Rattle.log_extents.specs.Chains.{first_or, chain_to, IsNumberOf, IsNew, AreDistinct, IsChainOf}

-- ---- chains of a kind

-- the gate of the first extent: open in a chain of the log that counts, and 0 in one of anchors
abbrev pub gate_of : ChainKind → ℕ
gate_of Log = 0xC7
gate_of Anchors = 0

-- a chain of the log names the head of the one that follows, and one of anchors names none
abbrev pub IsLinkOf : ChainKind → ℕ → ℕ → Type 0
IsLinkOf Log most link = (0 < link) × (link ≤ most)
IsLinkOf Anchors most link = link ≡ 0

-- these images are a chain of this kind whose first extent has this number
pub record IsChainFrom (kind : ChainKind) (most number : ℕ) (numbers : List ℕ) (link : ℕ) (content : List ℕ) (images : List (List ℕ)) : Type 0 where
  pub first : first_or 0 numbers ≡ number
  pub link_is : IsLinkOf kind most link
  pub chain : IsChainOf most numbers (gate_of kind) link content images

-- ---- what was taken

-- the extents that were taken and what they hold, and the one that comes next: 0 where the chain is whole
pub record ChainState : Type 0 where
  pub kind : ChainKind
  pub most : ℕ
  pub numbers : List ℕ
  pub next : ℕ
  pub link : ℕ
  pub content : List ℕ

-- the state with these parts
abbrev pub state_of : ChainKind → ℕ → List ℕ → ℕ → ℕ → List ℕ → ChainState
state_of kind most numbers next link content = record { kind = kind; most = most; numbers = numbers; next = next; link = link; content = content }

-- the number of the chain's first extent
abbrev pub head_of : ChainState → ℕ
head_of s = first_or s.next s.numbers

-- the images that were taken
abbrev pub images_of : ChainState → List (List ℕ)
images_of s = map linked_bytes (chain_to s.next (gate_of s.kind) s.link s.numbers s.content)

-- the link is read with the first extent
abbrev pub IsLinkAfter : ChainKind → ℕ → List ℕ → ℕ → Type 0
IsLinkAfter kind most [] link = Unit {0}
IsLinkAfter kind most (n ∷ ns) link = IsLinkOf kind most link

-- what holds of a state
pub record IsTaking (s : ChainState) : Type 0 where
  pub most : s.most < 2 ^ 32
  pub next_fits : s.next < 2 ^ 32
  pub link_fits : s.link < 2 ^ 32
  pub in_range : AllByRecursion (IsNumberOf s.most) s.numbers
  pub distinct : AreDistinct s.numbers
  pub link : IsLinkAfter s.kind s.most s.numbers s.link
  pub full : s.next ≢ 0 → length s.content ≡ 8168 * length s.numbers
  -- behind the first extent the next one is none, or another one of the heap
  pub next : s.numbers ≢ [] → s.next ≢ 0 → IsNumberOf s.most s.next × IsNew s.next s.numbers

-- ---- the extent that comes next

-- the first has the gate and the link of its kind, and the others have none
abbrev pub IsPlaced : ChainKind → ℕ → List ℕ → LinkedExtent → Type 0
IsPlaced kind most [] e = (e.gate ≡ gate_of kind) × IsLinkOf kind most e.link
IsPlaced kind most (n ∷ ns) e = (e.gate ≡ 0) × (e.link ≡ 0)

-- where another one comes behind it, it is full, and that one is new
abbrev pub GoesOn : List ℕ → LinkedExtent → Type 0
GoesOn numbers e = e.next ≢ 0 → (length e.body ≡ 8168) × (e.number ≢ e.next) × IsNew e.next numbers

-- the extent may come next
pub record Fits (s : ChainState) (e : LinkedExtent) : Type 0 where
  pub linked : IsLinked s.most e
  pub own : e.number ≡ s.next
  pub placed : IsPlaced s.kind s.most s.numbers e
  pub goes_on : GoesOn s.numbers e

-- the link of a chain behind an extent, of which it may be the first
abbrev pub link_after : List ℕ → ℕ → ℕ → ℕ
link_after [] link own = own
link_after (n ∷ ns) link own = link

-- the state behind it
abbrev pub behind : ChainState → LinkedExtent → ChainState
behind s e =
    record {
      kind = s.kind;
      most = s.most;
      numbers = s.numbers ++ e.number ∷ [];
      next = e.next;
      link = link_after s.numbers s.link e.link;
      content = s.content
          ++ e.body;
    }

-- ---- what `take` answers

-- every chain that these images begin: its numbers, its link, its content, and the images behind these
abbrev pub EachChain : ChainState → List (List ℕ) → (List ℕ → ℕ → List ℕ → List (List ℕ) → Type 0) → Type 0
EachChain s images Holds =
    (numbers : List ℕ) (link : ℕ) (content : List ℕ) (rest : List (List ℕ)) → IsChainFrom s.kind s.most (head_of s) numbers link content (images ++ rest)
    → Holds numbers link content rest

-- numbers, link and content begin with those of the state
pub record BeginsWith (s : ChainState) (numbers : List ℕ) (link : ℕ) (content : List ℕ) : Type 0 where
  pub others : List ℕ
  pub bytes : List ℕ
  pub numbers_are : numbers ≡ s.numbers ++ s.next ∷ others
  pub link_is : link ≡ s.link
  pub content_is : content ≡ s.content ++ bytes

-- some images behind these make a chain
pub record CanBeWhole (s : ChainState) (images : List (List ℕ)) : Type 0 where
  pub numbers : List ℕ
  pub link : ℕ
  pub content : List ℕ
  pub rest : List (List ℕ)
  pub is_chain : IsChainFrom s.kind s.most (head_of s) numbers link content (images ++ rest)

-- the heap and the kind stay what they were
pub record IsSameChain (old new : ChainState) : Type 0 where
  pub kind : new.kind ≡ old.kind
  pub most : new.most ≡ old.most
  pub head : head_of new ≡ head_of old

-- one extent more, and another one has to come
pub record IsMore (old new : ChainState) (image : List ℕ) (number : ℕ) : Type 0 where
  pub same : IsSameChain old new
  pub numbers : new.numbers ≡ old.numbers ++ old.next ∷ []
  pub next : new.next ≡ number
  pub in_range : IsNumberOf old.most number
  pub images : images_of new ≡ images_of old ++ image ∷ []
  pub can_be_whole : CanBeWhole old (images_of old ++ image ∷ [])
  pub each : EachChain old (images_of old ++ image ∷ []) (λ numbers link content rest. BeginsWith new numbers link content)

-- numbers, link and content are those of the state, and no image is behind it
pub record IsIt (s : ChainState) (numbers : List ℕ) (link : ℕ) (content : List ℕ) (rest : List (List ℕ)) : Type 0 where
  pub numbers_are : numbers ≡ s.numbers
  pub link_is : link ≡ s.link
  pub content_is : content ≡ s.content
  pub none : rest ≡ []

-- one extent more, and these are a chain
pub record IsWhole (old new : ChainState) (image : List ℕ) : Type 0 where
  pub same : IsSameChain old new
  pub numbers : new.numbers ≡ old.numbers ++ old.next ∷ []
  pub next : new.next ≡ 0
  pub images : images_of new ≡ images_of old ++ image ∷ []
  pub is_chain : IsChainFrom old.kind old.most (head_of old) new.numbers new.link new.content (images_of old ++ image ∷ [])
  pub each : EachChain old (images_of old ++ image ∷ []) (λ numbers link content rest. IsIt new numbers link content rest)

-- the answer behind an extent that fits and names this next one
abbrev pub told_by : ℕ → Taken
told_by zero = Whole
told_by (suc n) = More (suc n)

-- what is known behind each answer
abbrev pub Takes : ChainState → ChainState → List ℕ → Taken → Type 0
Takes old new image (More number) = IsMore old new image number
Takes old new image Whole = IsWhole old new image
Takes old new image Bad = (new ≡ old) × EachChain old (images_of old ++ image ∷ []) (λ numbers link content rest. ⊥)
