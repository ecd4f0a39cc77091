-- What the shown cases are made of: a case as data, and whether a definition gives what the case wants.
use Rattle.std.specs.Prelude.{ℕ, ◌+◌, ◌*◌, Bool, cond, List, [], ◌∷◌, ◌++◌, eqb, length, replicate}
use Prim.Native.String.{String}
use Prim.Native.String as S
use Prim.Native.Char.{code}
use Rattle.std.proofs.Math.Option.{Option, none, some}
use Rattle.rules.specs.Bytes.{big_endian, same_bytes}
use Rattle.rules.specs.Answers.{Answer, done, refused, number, beside, answer_number, stored}
use Rattle.rules.specs.Settings.{rs, session_of, simple_tagging, invalid}
use Rattle.rules.specs.Roles.{counterpart, open_session}
use Rattle.rules.specs.Attributes.{communities_type}
use Rattle.rules.specs.Changes.{thrown_told, new_attribute, with_tag}
use Rattle.rules.specs.Receipt.{receive, state_handed_on}
use Rattle.rules.specs.Sending.{own_route, send_size, send_write}
use Rattle.rules.specs.OtherMake.{allowed}
use Rattle.rules.specs.Origin.{prefix_in, vrps, state_over, origin_state, received_tag}
use Rattle.rules.specs.Index.{build_index, insert_record, Finding, look_up}
use Rattle.rules.specs.Choice.{Candidate, Choice, choose, better, winners_block}
use Rattle.rules.specs.Chain.{Hop, Call, sizing, writing, receipt, End, arrived, stopped, run, Order, in_order, out_of_order, order_of}
use Rattle.rules.specs.Text.{from_hex}
use Rattle.rules.specs.Desk.{vrp_in, vrp_frame, desk}
use Rattle.rules.specs.declared.Refusal.{Refusal}
use Rattle.rules.specs.declared.Refusal.TheVariants.{Withheld}
use Rattle.rules.specs.declared.Session.{Session}
use Rattle.rules.specs.declared.Offer.{Offer}
use Rattle.rules.specs.declared.Words.{Words}

-- A text as bytes, and the bytes that hex digits spell.
unfoldable pub text : String → List ℕ
text S.[] = []
text (S.◌∷◌ c s) = code c ∷ text s

unfoldable pub hex : String → List ℕ
hex s = from_hex (text s)

-- ---- Answers as numbers: 0 and the result, or the refusal's number and the one beside it

unfoldable pub or_nothing : Option ℕ → List ℕ
or_nothing none = []
or_nothing (some n) = n ∷ []

unfoldable pub refusal : Refusal → List ℕ
refusal r = number r ∷ or_nothing (beside r)

unfoldable pub numbers : {A : Type 0} → (A → List ℕ) → Answer A → List ℕ
numbers result (done a) = 0 ∷ result a
numbers result (refused r) = refusal r

-- The number of tags thrown out that stands beside an answer to a block (02, Q-8).
unfoldable pub thrown_beside : {A : Type 0} → Answer A → List ℕ → List ℕ
thrown_beside a b = or_nothing (thrown_told (answer_number a) b)

unfoldable pub call_number : Call → ℕ
call_number sizing = 0
call_number writing = 1
call_number receipt = 2

-- The end of a chain: 0 and the block, or 1, the hop, the call and the refusal.
unfoldable pub end_numbers : End → List ℕ
end_numbers (arrived b) = 0 ∷ b
end_numbers (stopped i c r) = 1 ∷ i ∷ call_number c ∷ refusal r

-- The end that the order of hops foretells, where b is what arrives.
unfoldable pub foretold : Order → List ℕ → End
foretold in_order b = arrived b
foretold (out_of_order i rule) b = stopped i sizing (Withheld rule)

-- ---- Cases

-- What is put to a definition, and the numbers that it is to give. Blocks, tables and parameters are hex.
pub data Case : Type 0 where
  -- the desk: its input and its whole output
  at_desk : String → String → Case
  -- opening: local role, strict, parameters
  opening : ℕ → ℕ → String → List ℕ → Case
  -- receipt, and the second call of sending: what they are handed, and what their buffer held
  receiving : Session → String → List ℕ → List ℕ → Case
  dispatching : Session → ℕ → ℕ → String → List ℕ → List ℕ → Case
  -- both calls of sending (02, Q-6): session, source, state, a block as bytes, and how many the second's buffer has; what each of them tells
  pairing : Session → ℕ → ℕ → List ℕ → ℕ → List ℕ → List ℕ → Case
  -- receipt again: the number of its answer, that of the tags thrown out, and the state handed on
  handing_on : Session → String → List ℕ → List ℕ → Case
  -- another make's block held against ours (02, Q-12): session, source, state, the block handed in and the block sent, as bytes
  allowing : Session → ℕ → ℕ → List ℕ → List ℕ → List ℕ → Case
  -- the buffer after the sending of an own route, state unavailable
  leaving : Session → String → List ℕ → List ℕ → Case
  -- the flags of an attribute of so many communities, and its flags once a tag is last in it
  tagging : ℕ → ℕ → ℕ → Case
  -- origin state: width, prefix length, prefix, table, block
  validating : ℕ → ℕ → String → String → String → List ℕ → Case
  -- the state over the parts of a table, by theirs
  over_parts : List ℕ → ℕ → Case
  -- a prefix of some width handed over as words
  spelling : ℕ → Words → String → Case
  -- a VRP frame of some width at a desk that holds so many such VRPs
  taking : ℕ → ℕ → String → List ℕ → Case
  -- the build of an index (02, Q-7): width, table, how many nodes are lent; one record more: width, table, record, nodes lent
  building : ℕ → String → ℕ → List ℕ → Case
  inserting : ℕ → String → String → ℕ → List ℕ → Case
  -- a look-up: width, table, prefix length, prefix, origin
  finding : ℕ → String → ℕ → String → ℕ → List ℕ → Case
  -- the received tag, and the number of tags thrown out
  reading : String → List ℕ → Case
  -- choosing: mode, client, buffer
  choosing : ℕ → ℕ → String → List Offer → List ℕ → Case
  comparing : Candidate → Candidate → List ℕ → Case
  -- a chain in simple tagging, by the senders' byte of 02, Q-11, the receivers' and the roles of its senders, that carries an own route: run, and
  -- foretold by the order of hops
  carrying : ℕ → ℕ → List ℕ → End → Case

-- One end of a session in some mode, with a byte of 02, Q-11, which of an RS is 0.
unfoldable pub end_of : ℕ → ℕ → ℕ → ℕ → ℕ → Session
end_of mode byte local remote role = session_of local remote role mode (cond (eqb role rs) 0 byte)

-- The hops of a chain of sessions in some mode, over the ASes n, n + 1 and so on, by the bytes of the two ends and the roles of the senders,
-- with an invalid route.
unfoldable pub hops : ℕ → ℕ → ℕ → ℕ → List ℕ → List Hop
hops mode sends gets n [] = []
hops mode sends gets n (role ∷ roles) =
    record {
      sender = end_of mode sends n (n + 1) role;
      receiver = end_of mode gets (n + 1) n (counterpart role);
      state = invalid;
      sender_buffer = replicate 4073 7;
      receiver_buffer = replicate 4073 9;
    } ∷ hops mode sends gets (n + 1) roles

-- An own route: ORIGIN and an empty AS_PATH.
unfoldable pub shortest : List ℕ
shortest = hex "40010100400200"

unfoldable pub arrival : End → List ℕ
arrival (arrived b) = b
arrival (stopped i c r) = []

unfoldable pub holds : Case → Bool
holds (at_desk input output) = same_bytes (desk (text input)) (text output)
holds (opening role strict s wanted) = same_bytes (numbers (λ r. r ∷ []) (open_session role strict (hex s))) wanted
holds (receiving s b buffer wanted) = same_bytes (numbers (λ r. r) (receive s (hex b) (length buffer))) wanted
holds (handing_on s b buffer wanted) =
    let a = receive s (hex b) (length buffer) in
    same_bytes (answer_number a ∷ thrown_beside a (hex b) ++ or_nothing (state_handed_on s (answer_number a) (hex b))) wanted
holds (dispatching s source state b buffer wanted) =
    same_bytes (numbers (λ r. r) (send_write s source state (hex b) (length buffer))) wanted
holds (pairing s source state b room first second) =
    same_bytes (numbers (λ r. r ∷ []) (send_size s source state b) ++ numbers (λ r. length r ∷ []) (send_write s source state b room)) (first ++ second)
holds (allowing s source state b sent wanted) = same_bytes (numbers (λ r. r ∷ []) (allowed s source state b sent)) wanted
holds (leaving s b buffer wanted) = same_bytes (stored (send_write s own_route 3 (hex b) (length buffer)) buffer) wanted
holds (tagging flags n wanted) = eqb (with_tag 0 (new_attribute flags communities_type (replicate (8 * n) 1))).flags wanted
holds (validating w len prefix table b wanted) =
    same_bytes (numbers (λ r. r ∷ []) (origin_state w len (big_endian (hex prefix)) 1 (hex table) (hex b))) wanted
holds (over_parts states wanted) = eqb (state_over states) wanted
holds (spelling w p wanted) = eqb (prefix_in w p) (big_endian (hex wanted))
holds (taking w held f wanted) =
    same_bytes (numbers (λ r. r) (vrp_frame w (replicate held (vrp_in w (hex f))) (hex f))) wanted
holds (building w table lent wanted) =
    same_bytes (numbers (λ r. r ∷ []) (build_index w (hex table) (replicate (3 * (lent + length (vrps w (hex table)))) 7))) wanted
holds (inserting w table added lent wanted) =
    same_bytes (numbers (λ r. r ∷ []) (insert_record w (hex table) (hex added) (replicate (3 * (lent + length (vrps w (hex table)) + 1)) 7))) wanted
holds (finding w table len prefix asn wanted) =
    same_bytes (numbers (λ (f : Finding). f.state ∷ f.visited ∷ []) (look_up w (vrps w (hex table)) (big_endian (hex prefix)) len asn)) wanted
holds (reading b wanted) = same_bytes (numbers (λ r. r ∷ []) (received_tag (hex b)) ++ thrown_beside (received_tag (hex b)) (hex b)) wanted
holds (choosing mode client buffer offers wanted) =
    same_bytes (numbers (λ (c : Choice). c.index ∷ c.left ∷ []) (choose mode client (hex buffer) offers)) wanted
holds (comparing a b wanted) = same_bytes (numbers (λ r. r ∷ []) (better a b) ++ winners_block a b (better a b)) wanted
holds (carrying sends gets roles end) =
    let chain = hops simple_tagging sends gets 1 roles in
    same_bytes (end_numbers (run chain shortest) ++ end_numbers (foretold (order_of chain) (arrival end))) (end_numbers end ++ end_numbers end)
