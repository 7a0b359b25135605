-- The texts of the faults of layouts, states and tables, by their numbers.
use Rattle.std.specs.Prelude.{◌≡◌, ◌⊎◌, ◌<◌, ◌==◌, ℕ, ℤ, pos, negsuc, List, [], codes, drop, length, take, if◌then◌else◌}

-- faults of the fields of roots
abbrev pub text_of_root_fault : ℕ → List ℕ
text_of_root_fault n =
    if n == 27 then codes "a root's tree has no such profile"
    else if n == 28 then codes "a root has over 4 levels"
    else if n == 29 then codes "a root's pages aren't 1, 2, 4, 8 or 16, or end over frame 2^64"
    else if n == 30 then codes "a range that is left out has no page, or ends over page 2^52"
    else []

-- faults of pages of tables and of roots, and of walks
abbrev pub text_of_table_fault : ℕ → List ℕ
text_of_table_fault n =
    if n == 15 then codes "a page of tables hasn't 512 words"
    else if n == 16 then codes "two pages have one frame"
    else if n == 17 then codes "a root is of a tree that can't be"
    else if n == 18 then codes "a tree has two roots"
    else if n == 19 then codes "a frame of a root has no page"
    else if n == 20 then codes "a table is below itself"
    else if n == 21 then codes "a table is reached at two levels"
    else if n == 22 then codes "a table is reached twice"
    else if n == 23 then codes "a freedom that there is not"
    else if n == 24 then codes "freedoms without that of own tables"
    else if n == 25 then codes "CPUs that aren't 1 to 64"
    else if n == 26 then codes "the carve-out has fewer frames than boot needs tables"
    else text_of_root_fault n

-- faults of the lists of a state, and then those of tables
abbrev pub text_of_list_fault : ℕ → List ℕ
text_of_list_fault n =
    if n == 7 then codes "an invalid number"
    else if n == 8 then codes "a frame of the rows or a lent page is too large"
    else if n == 9 then codes "two runs of rows share a frame"
    else if n == 10 then codes "two slots, guests or CPUs have one number"
    else if n == 11 then codes "a page, a frame or a slot is too large"
    else if n == 12 then codes "two runs of one tree share a page"
    else if n == 13 then codes "two tables of one tree are at one block, or have one frame"
    else if n == 14 then codes "a pool has a frame twice"
    else text_of_table_fault n

-- faults of a layout, and then those of lists
abbrev pub text_of_fault : ℕ → List ℕ
text_of_fault n =
    if n == 1 then codes "address bits that are neither 39 nor 48"
    else if n == 2 then codes "over 16 regions"
    else if n == 3 then codes "a region or the carve-out has no page"
    else if n == 4
    then codes "a region ends over page 2^26, or there are over 524288 pages of memory"
    else if n == 5 then codes "two regions share a page"
    else if n == 6 then codes "the carve-out isn't in one memory region"
    else text_of_list_fault n

module _ (fault : ℕ) where
  -- there is no such fault, and nothing is written
  pub record IsUnknown (old new : List ℕ) (count : ℕ) (status : ℤ) : Type 0 where
    pub none : text_of_fault fault ≡ []
    pub status_is : status ≡ negsuc 2
    pub count_is : count ≡ 0
    pub text : new ≡ old

  -- its text is written
  pub record IsNamed (old new : List ℕ) (count : ℕ) (status : ℤ) : Type 0 where
    pub some : 0 < count
    pub status_is : status ≡ pos 0
    pub count_is : count ≡ length (text_of_fault fault)
    pub text : take count new ≡ text_of_fault fault
    pub behind : drop count new ≡ drop count old

  -- its text has no room
  pub record LacksRoom (old new : List ℕ) (count : ℕ) (status : ℤ) : Type 0 where
    pub less : length old < count
    pub status_is : status ≡ negsuc 1
    pub count_is : count ≡ length (text_of_fault fault)
    pub text : new ≡ old

  -- one of these
  abbrev pub IsFaultReported : List ℕ → List ℕ → ℕ → ℤ → Type 0
  IsFaultReported old new count status =
      IsUnknown old new count status
      ⊎ (IsNamed old new count status ⊎ LacksRoom old new count status)
