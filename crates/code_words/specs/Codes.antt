-- The codes that lines have, table by table. A capital stands for what is filled in.
use Rattle.std.specs.Prelude.{ℕ, List, [], ◌∷◌, codes}

-- a folder that is no valid bag
abbrev pub invalid_codes : List (List ℕ)
invalid_codes =
    codes "invalid 1" ∷ codes "invalid 2" ∷ codes "invalid 3" ∷ codes "invalid 4"
    ∷ codes "invalid 5" ∷ codes "invalid 6" ∷ codes "invalid 7" ∷ codes "invalid 8"
    ∷ codes "invalid 9" ∷ codes "invalid 10" ∷ codes "invalid 11" ∷ codes "invalid 12"
    ∷ codes "invalid 13" ∷ codes "invalid 14" ∷ codes "invalid 15" ∷ []

-- a folder that can't be read
abbrev pub unread_codes : List (List ℕ)
unread_codes =
    codes "unread 1" ∷ codes "unread 2" ∷ codes "unread 3" ∷ codes "unread 4" ∷ codes "unread 5"
    ∷ codes "unread 6" ∷ codes "unread 7" ∷ []

-- a cell that a site can't open
abbrev pub open_codes : List (List ℕ)
open_codes =
    codes "open 1" ∷ codes "open 2" ∷ codes "open 3" ∷ codes "open 4" ∷ codes "open 5"
    ∷ codes "open 6" ∷ []

-- why a site stopped
abbrev pub stopped_codes : List (List ℕ)
stopped_codes =
    codes "stopped 1" ∷ codes "stopped 2" ∷ codes "stopped 3" ∷ []

-- what a site refused, by numbers from 10 on
abbrev pub refused_codes : List (List ℕ)
refused_codes =
    codes "refused S 10 N" ∷ codes "refused S 11" ∷ codes "refused S 12" ∷ codes "refused S 13"
    ∷ codes "refused S 14" ∷ codes "refused S 15" ∷ codes "refused S 16" ∷ codes "refused S 17"
    ∷ codes "refused S 18" ∷ codes "refused S 19" ∷ []

-- why a command of a schedule couldn't apply
abbrev pub skipped_codes : List (List ℕ)
skipped_codes =
    codes "skip L site" ∷ codes "skip L tree" ∷ codes "skip L path" ∷ codes "skip L datagram"
    ∷ codes "skip L formed" ∷ codes "skip L down" ∷ codes "skip L up" ∷ []

-- all others
abbrev pub other_codes : List (List ℕ)
other_codes =
    codes "memory" ∷ codes "input unread" ∷ codes "schedule line N" ∷ codes "dropped S"
    ∷ codes "down S" ∷ codes "no answer" ∷ codes "members unread" ∷ codes "members line N"
    ∷ codes "members other list" ∷ codes "not a member" ∷ codes "same file" ∷ codes "key unread"
    ∷ codes "key open to others" ∷ codes "key line N" ∷ codes "key lacks sites"
    ∷ codes "key same file" ∷ codes "key exists" ∷ codes "key unwritten" ∷ codes "bags unread"
    ∷ codes "deposits unread" ∷ codes "deposits line N" ∷ codes "socket" ∷ codes "torn BYTES"
    ∷ codes "damaged OFFSET" ∷ codes "ledger line N" ∷ codes "in-use CELL" ∷ codes "unread CELL"
    ∷ codes "foreign CELL" ∷ codes "damaged CELL OFFSET" ∷ codes "conflict OBJ V HEX HEX"
    ∷ codes "other OBJ V HEX HEX" ∷ codes "open OBJ V" ∷ codes "site S silent" ∷ []
