-- Cases of our own for receipt, sending and chains, beside the shown ones.
use Rattle.std.specs.Prelude.{ℕ, ◌-◌, List, [], ◌∷◌, ◌++◌, drop, replicate}
use Prim.Native.String.{String}
use Rattle.rules.specs.Bytes.{bytes2}
use Rattle.rules.specs.Settings.{session_of}
use Rattle.rules.specs.Roles.{provider, rs, rs_client, customer, peer}
use Rattle.rules.specs.Sending.{own_route}
use Rattle.rules.specs.OtherMake.{yes, no}
use Rattle.rules.specs.Chain.{sizing, arrived, stopped}
use Rattle.rules.specs.Cases.{hex, refusal, shortest, Case, receiving, handing_on, dispatching, pairing, allowing, leaving, tagging, carrying}
use Rattle.rules.specs.declared.Refusal.TheVariants.{Ineligible, Withheld, Malformed, BadSetting, BadLength, NoRoom}
use Rattle.rules.specs.declared.Session.{Session}

-- A block with the tags 3, 3 with all its reserved bits set, and 2, and with two other communities: 43 01, ending in 7, and 00 02, ending in 9;
-- and the same with an OTC.
abbrev pub erroneous : String
erroneous = "40010100400200C0102843000000000000034300FFFFFFFFFF03430000000000000243010000000000070002000000000009"

abbrev pub erroneous_otc : String
erroneous_otc = "40010100400200C0102843000000000000034300FFFFFFFFFF03430000000000000243010000000000070002000000000009C0230400000002"

-- AS 1 with AS 2, by its own role and a mode; and in mode 1, by its own role and a byte of 02, Q-11.
unfoldable pub between : ℕ → ℕ → Session
between role mode = session_of 1 2 role mode 0

unfoldable pub owned : ℕ → ℕ → Session
owned role byte = session_of 1 2 role 1 byte

-- A block of n bytes: an own route, and an attribute of type 99 with the rest, of the long form.
unfoldable pub padded : ℕ → List ℕ
padded n = shortest ++ (0xD0 ∷ 99 ∷ bytes2 (n - 11)) ++ replicate (n - 11) 0

unfoldable pub passing_cases : List Case
passing_cases =
    -- The order of answers: each call has one reason less to be refused than the last. Setting, fault, rule, room.
    receiving (between provider 4) "40010100C0230400000002" [] (refusal BadSetting) ∷
    receiving (between provider 3) "40010100C0230400000002" [] (refusal (Malformed 4)) ∷
    receiving (between provider 3) "40010100400200C0230400000002" [] (refusal (Ineligible 1)) ∷
    receiving (between provider 3) "40010100400200" [] (refusal NoRoom) ∷
    -- A communities attribute of length 0 is fault 6; one emptied by dropping goes away, and a tag then comes as a new one.
    dispatching (between customer 1) own_route 3 "40010100400200C01000" (replicate 99 0) (refusal (Malformed 6)) ∷
    dispatching (between customer 1) own_route 3 "40010100400200C010084300000000000001" (replicate 99 0) (0 ∷ shortest) ∷
    dispatching (between rs 1) own_route 0 "40010100400200E010084300000000000001C02800" (replicate 99 0)
    (0 ∷ hex "40010100400200C010084300000000000000C0230400000001C02800") ∷
    -- 02, Q-2. What is new begins E0 on receipt, and on sending whoever the route was learned from, a customer included: the OTC, and the tag,
    -- also where it comes for a communities attribute that was emptied. (Of an own route they begin C0: P4, and the case before.)
    receiving (between customer 1) "40010100400200" (replicate 99 0) (0 ∷ hex "40010100400200E0230400000002") ∷
    dispatching (between provider 1) customer 3 "40010100400200" (replicate 99 0) (0 ∷ hex "40010100400200E0230400000001") ∷
    dispatching (between rs 1) rs_client 0 "40010100400200" (replicate 99 0) (0 ∷ hex "40010100400200E010084300000000000000E0230400000001") ∷
    dispatching (between rs 1) rs_client 0 "40010100400200C010084300000000000001C02800" (replicate 99 0)
    (0 ∷ hex "40010100400200E010084300000000000000E0230400000001C02800") ∷
    -- What was there keeps its flags, on own and learned routes alike, but for the bit of the long form: C0 to D0, E0 to F0.
    dispatching (between rs 1) rs_client 0 "40010100400200C010080002000000000000C0230400000005" (replicate 99 0)
    (0 ∷ hex "40010100400200C0101000020000000000004300000000000000C0230400000005") ∷
    dispatching (between rs 1) own_route 0 "40010100400200E010080002000000000000E0230400000005" (replicate 99 0)
    (0 ∷ hex "40010100400200E0101000020000000000004300000000000000E0230400000005") ∷
    tagging 0xC0 30 0xC0 ∷
    tagging 0xC0 31 0xD0 ∷
    tagging 0xE0 31 0xF0 ∷
    -- Over a chain the OTC is that of the first hop that adds one: C0 where that is the originator's own (P11: E0, of a route from a customer).
    carrying 0 0 (provider ∷ provider ∷ []) (arrived (hex "40010100400200C0230400000001")) ∷
    -- Mode 2 withholds an invalid route from a client, and mode 0 means mode 2 (02, Q-9); modes 1 and 3 tag it and send it. A route of another state
    -- is tagged in mode 0, and an invalid one goes to a customer.
    dispatching (between rs 2) own_route 2 "40010100400200" (replicate 99 0) (refusal (Withheld 3)) ∷
    dispatching (between rs 0) own_route 2 "40010100400200" (replicate 99 0) (refusal (Withheld 3)) ∷
    dispatching (between rs 1) own_route 2 "40010100400200" (replicate 99 0) (0 ∷ hex "40010100400200C010084300000000000002C0230400000001") ∷
    dispatching (between rs 3) own_route 2 "40010100400200" (replicate 99 0) (0 ∷ hex "40010100400200C010084300000000000002C0230400000001") ∷
    dispatching (between rs 0) own_route 1 "40010100400200" (replicate 99 0) (0 ∷ hex "40010100400200C010084300000000000001C0230400000001") ∷
    dispatching (between provider 0) own_route 2 "40010100400200" (replicate 99 0) (0 ∷ hex "40010100400200C0230400000001") ∷
    -- The buffer: a refusal leaves it, and 0 leaves what lies past the written length.
    leaving (between customer 1) "40010100400200" (replicate 6 5) (replicate 6 5) ∷
    leaving (between customer 1) "40010100400200" (replicate 9 5) (hex "400101004002000505") ∷
    -- Receipt hands the number on with answers 0 and 1, from the block before anything is dropped; not with 5, 3 or 7.
    handing_on (between customer 1) erroneous (replicate 99 0) (0 ∷ 2 ∷ 3 ∷ []) ∷
    handing_on (between customer 1) "40010100400200" (replicate 99 0) (0 ∷ 0 ∷ 3 ∷ []) ∷
    handing_on (between provider 1) erroneous_otc [] (1 ∷ 2 ∷ []) ∷
    handing_on (between provider 1) erroneous [] (7 ∷ []) ∷
    handing_on (between provider 1) "40010100" [] (3 ∷ []) ∷
    handing_on (between provider 4) erroneous [] (5 ∷ []) ∷
    -- 02, Q-11. With 1 receipt drops the tags above 2 alone: 0, 1 and 2 stay, as they stand; with 0 it drops every tag. What begins 43 01 stays. An
    -- attribute emptied by dropping goes away.
    receiving (owned rs_client 1) erroneous (replicate 99 0) (0 ∷ hex "40010100400200C01018430000000000000243010000000000070002000000000009E0230400000002") ∷
    receiving (owned rs_client 0) erroneous (replicate 99 0) (0 ∷ hex "40010100400200C0101043010000000000070002000000000009E0230400000002") ∷
    receiving (owned provider 1) "40010100400200C0101843000000000000014300FFFFFFFFFF004300000000000003" (replicate 99 0)
    (0 ∷ hex "40010100400200C0101043000000000000014300FFFFFFFFFF00") ∷
    receiving (owned provider 1) "40010100400200C010084300000000000003" (replicate 99 0) (0 ∷ shortest) ∷
    -- It hands on the greatest of those left, or 3 where none is; with 0 always 3; on answers other than 0 none. The number thrown out is the same
    -- with either byte.
    handing_on (owned customer 1) erroneous (replicate 99 0) (0 ∷ 2 ∷ 2 ∷ []) ∷
    handing_on (owned provider 1) "40010100400200C0101843000000000000014300FFFFFFFFFF004300000000000003" (replicate 99 0) (0 ∷ 1 ∷ 1 ∷ []) ∷
    handing_on (owned provider 1) "40010100400200C010084300000000000003" (replicate 99 0) (0 ∷ 1 ∷ 3 ∷ []) ∷
    handing_on (owned provider 1) erroneous_otc (replicate 99 0) (1 ∷ 2 ∷ []) ∷
    handing_on (owned provider 1) erroneous [] (7 ∷ []) ∷
    -- With 1 sending drops every tag all the same, and tags towards any role with the states 0 to 2; rule 3 is as it was, so that in mode 2 an
    -- invalid route goes to a customer, tagged.
    dispatching (owned customer 1) own_route 2 "40010100400200C0101043000000000000004300000000000001" (replicate 99 0) (0 ∷ hex "40010100400200C010084300000000000002") ∷
    dispatching (owned customer 1) own_route 3 "40010100400200C0101043000000000000004300000000000001" (replicate 99 0) (0 ∷ shortest) ∷
    dispatching (owned customer 0) own_route 2 "40010100400200" (replicate 99 0) (0 ∷ shortest) ∷
    dispatching (owned peer 1) customer 0 "40010100400200" (replicate 99 0) (0 ∷ hex "40010100400200E010084300000000000000E0230400000001") ∷
    dispatching (session_of 1 2 provider 2 1) own_route 2 "40010100400200" (replicate 99 0) (0 ∷ hex "40010100400200C010084300000000000002C0230400000001") ∷
    -- A byte above 1, and 1 with local role RS, is 5, ahead of all else; an RS-Client may have 1.
    receiving (owned provider 2) "" [] (refusal BadSetting) ∷
    receiving (owned rs 1) "40010100400200" (replicate 99 0) (refusal BadSetting) ∷
    receiving (owned rs 0) "40010100400200" (replicate 99 0) (0 ∷ shortest) ∷
    dispatching (owned rs 1) own_route 0 "40010100400200" (replicate 99 0) (refusal BadSetting) ∷
    dispatching (owned rs_client 1) own_route 0 "40010100400200" (replicate 99 0) (0 ∷ hex "40010100400200C010084300000000000000") ∷
    -- Over a chain each end has a byte of its own: the last sender's tag arrives where both have 1, and the order of hops is the same.
    carrying 1 1 (customer ∷ peer ∷ []) (arrived (hex "40010100400200E010084300000000000002E0230400000002")) ∷
    carrying 1 0 (customer ∷ peer ∷ []) (arrived (hex "40010100400200E0230400000002")) ∷
    carrying 0 1 (rs_client ∷ rs ∷ []) (arrived (hex "40010100400200E010084300000000000002E0230400000002")) ∷
    carrying 1 1 (peer ∷ peer ∷ []) (stopped 1 sizing (Withheld 1)) ∷
    -- 02, Q-6. The first tells the length of the result: with a new tag and a new OTC, without the tags that are dropped, with a length form that
    -- has become long. The second tells the same with just so much room, and 7 with a byte less, none at all included.
    pairing (between rs 1) own_route 0 shortest 25 (0 ∷ 25 ∷ []) (0 ∷ 25 ∷ []) ∷
    pairing (between rs 1) own_route 0 shortest 24 (0 ∷ 25 ∷ []) (refusal NoRoom) ∷
    pairing (between customer 1) own_route 3 (hex "40010100400200C010084300000000000001") 7 (0 ∷ 7 ∷ []) (0 ∷ 7 ∷ []) ∷
    pairing (between customer 1) own_route 3 (hex "40010100400200C010084300000000000001") 0 (0 ∷ 7 ∷ []) (refusal NoRoom) ∷
    pairing (owned customer 1) own_route 0 (hex "40010100400200C010F8" ++ replicate 248 1) 267 (0 ∷ 267 ∷ []) (0 ∷ 267 ∷ []) ∷
    -- A result of 4,073 bytes is 0, and one of 4,074 is 7, of the first too and however much room there is.
    pairing (between peer 1) own_route 3 (padded 4066) 4073 (0 ∷ 4073 ∷ []) (0 ∷ 4073 ∷ []) ∷
    pairing (between peer 1) own_route 3 (padded 4067) 5000 (refusal NoRoom) (refusal NoRoom) ∷
    -- Every other refusal is the same of both, and the second's is not by its buffer: each call has one reason less to be refused than the last.
    pairing (between rs 4) 5 4 (padded 4074) 0 (refusal BadSetting) (refusal BadSetting) ∷
    pairing (between rs 1) rs_client 3 (padded 4074) 0 (refusal BadLength) (refusal BadLength) ∷
    pairing (between peer 1) peer 3 (hex "40010100") 0 (refusal (Malformed 4)) (refusal (Malformed 4)) ∷
    pairing (between peer 1) peer 3 (padded 4067) 0 (refusal (Withheld 2)) (refusal (Withheld 2)) ∷
    -- 02, Q-12. Our own block is allowed, and so it is in another sequence and in the long form; E0 in the place of C0, a low bit of the flags, another
    -- value, an attribute less and one more are each a no.
    allowing (between provider 1) own_route 3 shortest (hex "40010100400200C0230400000001") (0 ∷ yes ∷ []) ∷
    allowing (between provider 1) own_route 3 shortest (hex "D023000400000001500200005001000100") (0 ∷ yes ∷ []) ∷
    allowing (between provider 1) own_route 3 shortest (hex "40010100400200E0230400000001") (0 ∷ no ∷ []) ∷
    allowing (between provider 1) own_route 3 shortest (hex "41010100400200C0230400000001") (0 ∷ no ∷ []) ∷
    allowing (between provider 1) own_route 3 shortest (hex "40010100400200C0230400000002") (0 ∷ no ∷ []) ∷
    allowing (between provider 1) own_route 3 shortest shortest (0 ∷ no ∷ []) ∷
    allowing (between provider 1) own_route 3 shortest (hex "40010100400200C0230400000001C02800") (0 ∷ no ∷ []) ∷
    -- A learned route's new OTC begins E0 (02, Q-2): that of a make which writes C0 is a no.
    allowing (between provider 1) customer 3 shortest (hex "40010100400200E0230400000001") (0 ∷ yes ∷ []) ∷
    allowing (between provider 1) customer 3 shortest (hex "40010100400200C0230400000001") (0 ∷ no ∷ []) ∷
    -- The long form that a short one has become is ours in either form. Communities in another sequence are another value.
    allowing (owned customer 1) own_route 0 (hex "40010100400200C010F8" ++ replicate 248 1)
    (hex "40010100400200D0100100" ++ replicate 248 1 ++ hex "4300000000000000") (0 ∷ yes ∷ []) ∷
    allowing (between customer 1) own_route 3 (hex "40010100400200D010001000020000000000010002000000000002")
    (hex "40010100400200C0101000020000000000010002000000000002") (0 ∷ yes ∷ []) ∷
    allowing (between customer 1) own_route 3 (hex "40010100400200C0101000020000000000010002000000000002")
    (hex "40010100400200C0101000020000000000020002000000000001") (0 ∷ no ∷ []) ∷
    -- With the byte of Q-11 the tag is expected. A communities attribute emptied by dropping is not.
    allowing (owned peer 1) own_route 0 shortest (hex "40010100400200C010084300000000000000C0230400000001") (0 ∷ yes ∷ []) ∷
    allowing (owned peer 1) own_route 0 shortest (hex "40010100400200C0230400000001") (0 ∷ no ∷ []) ∷
    allowing (between customer 1) own_route 0 (hex "40010100400200C010084300000000000001") shortest (0 ∷ yes ∷ []) ∷
    -- A sent block that is cut, has a byte more than ours, or has a type twice, is a no and never a 3. So is anything where we would withhold the route, no byte included; in
    -- mode 0 an invalid route to a client (02, Q-9).
    allowing (between provider 1) own_route 3 shortest (hex "40010100400200C02304000000") (0 ∷ no ∷ []) ∷
    allowing (between provider 1) own_route 3 shortest (hex "40010100400200C023040000000140") (0 ∷ no ∷ []) ∷
    allowing (between customer 1) own_route 3 shortest (hex "4001010040020040010100") (0 ∷ no ∷ []) ∷
    allowing (between customer 1) provider 3 shortest [] (0 ∷ no ∷ []) ∷
    allowing (between customer 1) provider 3 shortest shortest (0 ∷ no ∷ []) ∷
    allowing (between rs 0) own_route 2 shortest (hex "40010100400200C010084300000000000002C0230400000001") (0 ∷ no ∷ []) ∷
    -- Refusals go ahead of yes or no, 6 for either block, also where ours are the attributes or where we would withhold the route; 3 is for the block
    -- handed in alone, and 7 goes before the no of an unreadable block. A withheld route is a no before 7.
    allowing (between provider 4) own_route 3 (padded 4074) (padded 4074) (refusal BadSetting) ∷
    allowing (between provider 1) own_route 3 (padded 4074) [] (refusal BadLength) ∷
    allowing (between provider 1) own_route 3 (hex "40010100") (padded 4074) (refusal BadLength) ∷
    allowing (between customer 1) provider 3 shortest (padded 4074) (refusal BadLength) ∷
    allowing (between customer 1) own_route 3 (padded 4073) (hex "5001000100" ++ drop 4 (padded 4073)) (refusal BadLength) ∷
    allowing (between provider 1) own_route 3 (hex "40010100") (hex "40010100") (refusal (Malformed 4)) ∷
    allowing (between provider 1) own_route 3 (padded 4067) [] (refusal NoRoom) ∷
    allowing (between peer 1) provider 3 (padded 4067) (padded 4067) (0 ∷ no ∷ []) ∷ []
