-- The plans of the jobs, made from what an image reads as.
use Rattle.std.specs.Prelude.{ℕ, max, nat_le, List, [], ◌∷◌, ◌++◌, map, filter, flat_map}
use Rattle.std.specs.declared.cmp.Ordering.{Ordering}
use Rattle.std.specs.declared.cmp.Ordering.TheVariants.{Less, Equal, Greater}
use Rattle.history.specs.declared.key.Key.{Key}
use Rattle.history.specs.declared.time.Version.{Version}
use Rattle.history.specs.Key.{key_cmp}
use Rattle.history.specs.Versions.{ends_after, ends_by, stands_at}
use Rattle.law_image.specs.Values.{Value}
use Rattle.law_image.specs.Reading.{Member, OldRecord, ArchiveRecord, Reading}
use Rattle.law_image.specs.Log.{floor_of}
use Rattle.law_image.specs.Facts.{heap_versions}
use Rattle.law_image.specs.StandsFor.{archived_upto}

-- ---- the keys of a heap, in order

-- a key put into a rising list, by how it compares with the first; more is the rest with the key in it
abbrev pub insert_at : Ordering → Key → Key → List Key → List Key → List Key
insert_at Less key first rest more = key ∷ first ∷ rest
insert_at Equal key first rest more = first ∷ rest
insert_at Greater key first rest more = first ∷ more

-- a key put into a list of keys that rise, unless it is there
abbrev pub insert_key : Key → List Key → List Key
insert_key key [] = key ∷ []
insert_key key (first ∷ rest) = insert_at (key_cmp key first) key first rest (insert_key key rest)

-- these keys, each once and rising
abbrev pub sorted_keys : List Key → List Key
sorted_keys [] = []
sorted_keys (key ∷ keys) = insert_key key (sorted_keys keys)

-- the keys of all records of members, in their order
abbrev pub member_keys : List Member → List Key
member_keys members = flat_map (λ m. map (λ r. r.key) m.records) members

-- the keys of anchors and members, each once and rising
abbrev pub heap_keys : Reading → List Key
heap_keys reading = sorted_keys (map (λ old. old.key) reading.anchors ++ member_keys reading.members)

-- ---- an archive

-- the versions of a key with max (A, F) < to ≤ upto
abbrev pub to_archive : Reading → ℕ → Key → List (Version Value)
to_archive reading upto key =
    filter (ends_by upto) (filter (ends_after (max (archived_upto reading) (floor_of reading.log key.relation))) (heap_versions reading key))

-- the record of a run that has this version of a key
abbrev pub archive_record : Key → Version Value → ArchiveRecord
archive_record key v = record { key = key; version = v }

-- the records of a run for these versions of each key, in the order of the keys
abbrev pub archive_records : (Key → List (Version Value)) → List Key → List ArchiveRecord
archive_records versions keys = flat_map (λ key. map (archive_record key) (versions key)) keys

-- The records of the run that an archive up to this time makes.
-- It is a plan of every image that stands for a history (the law plans_are), also once groups are published (the law plans_stay).
abbrev pub archive_plan : Reading → ℕ → List ArchiveRecord
archive_plan reading upto = archive_records (to_archive reading upto) (heap_keys reading)

-- ---- a reclaim

-- the version of a key that stands at the archive mark: from ≤ A < to
abbrev pub to_keep : Reading → Key → List (Version Value)
to_keep reading key = filter (stands_at (archived_upto reading)) (heap_versions reading key)

-- the record of the anchor chain that has this version of a key
abbrev pub old_record : Key → Version Value → OldRecord
old_record key v = record { key = key; from = v.from; value = v.value }

-- the records of the anchor chain for these versions of each key, in the order of the keys
abbrev pub old_records : (Key → List (Version Value)) → List Key → List OldRecord
old_records versions keys = flat_map (λ key. map (old_record key) (versions key)) keys

-- The records of the anchor chain that a reclaim makes.
-- It is a plan in the same sense (the laws plans_are and plans_stay).
abbrev pub reclaim_plan : Reading → List OldRecord
reclaim_plan reading = old_records (to_keep reading) (heap_keys reading)

-- the members whose chains a reclaim gives up, with that of the anchors before it: the commits later than R and not later than A
abbrev pub retired : Reading → List Member
retired reading = filter (λ m. nat_le m.head.time (archived_upto reading)) reading.members
